-- The listing of the paper's example, of conditions, readings and refusals, by evaluation (paper 02, ticket 4: examples (a) to (d)).
use Rattle.std.specs.Prelude.{◌≡◌, refl, [], ◌∷◌}
use Rattle.language.specs.Program.{table_bytes}
use Rattle.compile_code.specs.Computes.{compiling_computes}
use Rattle.examples.specs.Cases.{cases_compute}
use Rattle.examples.specs.Notation.{e}
use Rattle.examples.specs.Listing.{table}
use Rattle.listing_text.specs.Text.{digits, decimal, numbers, sheet_text, runs_from, text_of, lines_of, macro_text, listing_on, listing_of}

-- hold 7, set 3 200, release 7, sets 1, holds 1, releases 1, readings 0, end 0
pub example : listing_of (table_bytes table)
    ≡ 104 ∷ 111 ∷ 108 ∷ 100 ∷ 32 ∷ 55 ∷ 10
    ∷ 115 ∷ 101 ∷ 116 ∷ 32 ∷ 51 ∷ 32 ∷ 50 ∷ 48 ∷ 48 ∷ 10
    ∷ 114 ∷ 101 ∷ 108 ∷ 101 ∷ 97 ∷ 115 ∷ 101 ∷ 32 ∷ 55 ∷ 10
    ∷ 115 ∷ 101 ∷ 116 ∷ 115 ∷ 32 ∷ 49 ∷ 10
    ∷ 104 ∷ 111 ∷ 108 ∷ 100 ∷ 115 ∷ 32 ∷ 49 ∷ 10
    ∷ 114 ∷ 101 ∷ 108 ∷ 101 ∷ 97 ∷ 115 ∷ 101 ∷ 115 ∷ 32 ∷ 49 ∷ 10
    ∷ 114 ∷ 101 ∷ 97 ∷ 100 ∷ 105 ∷ 110 ∷ 103 ∷ 115 ∷ 32 ∷ 48 ∷ 10
    ∷ 101 ∷ 110 ∷ 100 ∷ 32 ∷ 48 ∷ 10 ∷ []
unfolding cases_compute compiling_computes digits decimal numbers sheet_text runs_from text_of lines_of macro_text listing_on listing_of
example = refl

-- a condition releases what is held: hold 63, release 63, the totals, end 21
pub condition : listing_of (table_bytes (e 1 1 1 ∷ e 14 63 0 ∷ e 28 0 0 ∷ e 40 0 1 ∷ e 49 4 0 ∷ e 40 0 1 ∷ e 40 0 0 ∷ []))
    ≡ 104 ∷ 111 ∷ 108 ∷ 100 ∷ 32 ∷ 54 ∷ 51 ∷ 10
    ∷ 114 ∷ 101 ∷ 108 ∷ 101 ∷ 97 ∷ 115 ∷ 101 ∷ 32 ∷ 54 ∷ 51 ∷ 10
    ∷ 115 ∷ 101 ∷ 116 ∷ 115 ∷ 32 ∷ 48 ∷ 10
    ∷ 104 ∷ 111 ∷ 108 ∷ 100 ∷ 115 ∷ 32 ∷ 49 ∷ 10
    ∷ 114 ∷ 101 ∷ 108 ∷ 101 ∷ 97 ∷ 115 ∷ 101 ∷ 115 ∷ 32 ∷ 49 ∷ 10
    ∷ 114 ∷ 101 ∷ 97 ∷ 100 ∷ 105 ∷ 110 ∷ 103 ∷ 115 ∷ 32 ∷ 48 ∷ 10
    ∷ 101 ∷ 110 ∷ 100 ∷ 32 ∷ 50 ∷ 49 ∷ 10 ∷ []
unfolding cases_compute compiling_computes digits decimal numbers sheet_text runs_from text_of lines_of macro_text listing_on listing_of
condition = refl

-- no bytes: refused 1 0
pub refused-empty : listing_of [] ≡ 114 ∷ 101 ∷ 102 ∷ 117 ∷ 115 ∷ 101 ∷ 100 ∷ 32 ∷ 49 ∷ 32 ∷ 48 ∷ 10 ∷ []
unfolding cases_compute compiling_computes digits decimal numbers listing_on listing_of
refused-empty = refl

-- SET(1, FADER(3) + FADER(3)): set 1 0, two readings, end 0
pub two-readings : listing_of (table_bytes (e 1 0 1 ∷ e 28 0 0 ∷ e 40 0 1 ∷ e 49 1 0 ∷ e 51 0 0 ∷ e 40 0 3 ∷ e 51 0 0 ∷ e 40 0 3 ∷ []))
    ≡ 115 ∷ 101 ∷ 116 ∷ 32 ∷ 49 ∷ 32 ∷ 48 ∷ 10
    ∷ 115 ∷ 101 ∷ 116 ∷ 115 ∷ 32 ∷ 49 ∷ 10
    ∷ 104 ∷ 111 ∷ 108 ∷ 100 ∷ 115 ∷ 32 ∷ 48 ∷ 10
    ∷ 114 ∷ 101 ∷ 108 ∷ 101 ∷ 97 ∷ 115 ∷ 101 ∷ 115 ∷ 32 ∷ 48 ∷ 10
    ∷ 114 ∷ 101 ∷ 97 ∷ 100 ∷ 105 ∷ 110 ∷ 103 ∷ 115 ∷ 32 ∷ 50 ∷ 10
    ∷ 101 ∷ 110 ∷ 100 ∷ 32 ∷ 48 ∷ 10 ∷ []
unfolding cases_compute compiling_computes digits decimal numbers sheet_text runs_from text_of lines_of macro_text listing_on listing_of
two-readings = refl

-- a fader out of range takes no reading: hold 5, release 5, end 25
pub no-reading : listing_of (table_bytes (e 1 1 1 ∷ e 14 5 0 ∷ e 28 0 0 ∷ e 40 0 1 ∷ e 51 0 0 ∷ e 40 0 65 ∷ []))
    ≡ 104 ∷ 111 ∷ 108 ∷ 100 ∷ 32 ∷ 53 ∷ 10
    ∷ 114 ∷ 101 ∷ 108 ∷ 101 ∷ 97 ∷ 115 ∷ 101 ∷ 32 ∷ 53 ∷ 10
    ∷ 115 ∷ 101 ∷ 116 ∷ 115 ∷ 32 ∷ 48 ∷ 10
    ∷ 104 ∷ 111 ∷ 108 ∷ 100 ∷ 115 ∷ 32 ∷ 49 ∷ 10
    ∷ 114 ∷ 101 ∷ 108 ∷ 101 ∷ 97 ∷ 115 ∷ 101 ∷ 115 ∷ 32 ∷ 49 ∷ 10
    ∷ 114 ∷ 101 ∷ 97 ∷ 100 ∷ 105 ∷ 110 ∷ 103 ∷ 115 ∷ 32 ∷ 48 ∷ 10
    ∷ 101 ∷ 110 ∷ 100 ∷ 32 ∷ 50 ∷ 53 ∷ 10 ∷ []
unfolding cases_compute compiling_computes digits decimal numbers sheet_text runs_from text_of lines_of macro_text listing_on listing_of
no-reading = refl

-- seven bytes: refused 1 0, and no totals
pub refused-seven : listing_of (1 ∷ 0 ∷ 0 ∷ 0 ∷ 0 ∷ 0 ∷ 0 ∷ [])
    ≡ 114 ∷ 101 ∷ 102 ∷ 117 ∷ 115 ∷ 101 ∷ 100 ∷ 32 ∷ 49 ∷ 32 ∷ 48 ∷ 10 ∷ []
unfolding cases_compute compiling_computes digits decimal numbers listing_on listing_of
refused-seven = refl

-- Tables compiled by macro_of, judged and run by evaluation: the listing example of paper 01 comes to its four lines, and a larger one loads.
use Rattle.std.specs.Prelude.{◌≡◌, refl, List, [], ◌∷◌, ℕ}
use Rattle.language.specs.Program.{table_bytes}
use Rattle.values.specs.Ends.{Judged, accepted, refused}
use Rattle.language.specs.Tree.{Tree}
use Rattle.language.specs.Table.{Entry}
use Rattle.language.specs.Judge.{judge_table}
use Rattle.examples.specs.Cases.{cases_compute}
use Rattle.examples.specs.Notation.{e, executed, loading, feed, answers}
use Rattle.examples.specs.Listing.{table}
use Rattle.compile_code.specs.Encode.{macro_of}
use Rattle.compile_code.specs.Computes.{compiling_computes}

abbrev bytes_for : Judged Tree → List ℕ
bytes_for (accepted t) = macro_of t
bytes_for (refused r) = []

-- the macro of a table
abbrev made : List Entry → List ℕ
made es = bytes_for (judge_table (table_bytes es))

loads : loading (made table) ≡ []
unfolding cases_compute compiling_computes
loads = refl

on-the-machine : answers (made table) (feed 65535 ∷ feed 65535 ∷ feed 65535 ∷ feed 65535 ∷ [])
    ≡ 5 ∷ 1 ∷ 7 ∷ 0 ∷ 0 ∷ 4 ∷ 3 ∷ 3 ∷ 200 ∷ 0 ∷ 6 ∷ 1 ∷ 7 ∷ 0 ∷ 0 ∷ 3 ∷ 2 ∷ 0 ∷ 0 ∷ 0 ∷ []
unfolding cases_compute compiling_computes
on-the-machine = refl

-- a block expression with a hold, a case, a while, a function with a parameter, a record
abbrev larger : List Entry
larger =
    e 1 4 5
    ∷ e 11 1 2 ∷ e 10 2 1 ∷ e 10 3 65537
    ∷ e 12 4 257 ∷ e 10 5 1 ∷ e 53 1 1 ∷ e 14 9 0 ∷ e 28 0 0 ∷ e 49 1 0 ∷ e 44 5 0 ∷ e 40 0 1 ∷ e 40 0 1 ∷ e 49 1 0 ∷ e 44 5 0 ∷ e 40 0 1
    ∷ e 10 6 1 ∷ e 10 7 65537
    -- statements
    ∷ e 24 0 0 ∷ e 49 6 0 ∷ e 44 6 0 ∷ e 40 0 3 ∷ e 21 0 0 ∷ e 44 6 0 ∷ e 45 4 1 ∷ e 44 6 0
    ∷ e 21 0 0 ∷ e 44 7 0 ∷ e 47 1 2 ∷ e 44 6 0 ∷ e 43 1 0
    ∷ e 30 3 0 ∷ e 46 2 0 ∷ e 44 7 0 ∷ e 1 0 0 ∷ e 1 0 0 ∷ e 28 0 0 ∷ e 40 0 7 ∷ e 40 0 8
    ∷ e 22 0 0 ∷ e 49 12 0 ∷ e 41 0 0 ∷ e 49 10 0 ∷ e 49 4 0 ∷ e 40 0 1 ∷ e 40 0 0 ∷ e 40 0 1 ∷ e 1 0 0
    ∷ e 21 0 0 ∷ e 46 2 0 ∷ e 46 3 0 ∷ e 44 7 0 ∷ e 40 0 1
    ∷ []

-- hold, set, release three times; set 7 8; the last assignment ends by 22
on-the-tree : executed larger 20 ≡ 2 ∷ 9 ∷ 0 ∷ 1 ∷ 1 ∷ 1 ∷ 3 ∷ 9 ∷ 0 ∷ 2 ∷ 9 ∷ 0 ∷ 1 ∷ 2 ∷ 1 ∷ 3 ∷ 9 ∷ 0 ∷ 2 ∷ 9 ∷ 0 ∷ 1 ∷ 3 ∷ 1 ∷ 3 ∷ 9 ∷ 0 ∷ 1 ∷ 7 ∷ 8 ∷ 22 ∷ []
unfolding cases_compute compiling_computes
on-the-tree = refl

loads-too : loading (made larger) ≡ []
unfolding cases_compute compiling_computes
loads-too = refl

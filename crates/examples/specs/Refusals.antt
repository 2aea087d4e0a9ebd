-- The examples of paper 01's table of refusals and ends, with number and place.
use Rattle.std.specs.Prelude.{◌≡◌, refl, List, [], ◌∷◌, ◌++◌, ℕ, zero, suc, ◌+◌, replicate}
use Rattle.language.specs.Program.{table_bytes}
use Rattle.language.specs.Table.{Entry}
use Rattle.language.specs.Judge.{judge_table, compile_on}
use Rattle.bytecode.specs.Runs.{finishes, refuses}
use Rattle.bytecode.specs.Lent.{start_on, run_on}
use Rattle.bytecode.specs.Answers.{answer_numbers}
use Rattle.examples.specs.Cases.{cases_compute}
use Rattle.examples.specs.Notation.{e, executed, verdict, refusal_of, hd, cl, bd, op, sh, zz, joined, loading}
use Rattle.examples.specs.Listing as Listing

-- ── tables ──
-- 17 classes, each with one field: names 100 and on
unfoldable classes : ℕ → ℕ → List Entry
classes zero a = []
classes (suc n) a = e 11 a 1 ∷ e 10 (suc a) 1 ∷ classes n (a + 2)

unfoldable variables : ℕ → List Entry
variables zero = []
variables (suc n) = e 10 n 1 ∷ variables n

-- 1: 7 bytes, and none, and 16,392
one : (refusal_of (judge_table (replicate 7 0)) ≡ 1 ∷ 0 ∷ []) × (refusal_of (judge_table []) ≡ 1 ∷ 0 ∷ [])
    × (refusal_of (judge_table (replicate 16392 0)) ≡ 1 ∷ 0 ∷ [])
unfolding cases_compute
one = (refl, refl, refl)

-- 2: kind 99; assigning to a kind 40; 17 classes; a table that ends early; an entry after the tree
two : (verdict (e 1 0 1 ∷ e 99 0 0 ∷ []) ≡ 2 ∷ 1 ∷ [])
    × (verdict (e 1 0 1 ∷ e 21 0 0 ∷ e 40 0 1 ∷ e 40 0 2 ∷ []) ≡ 2 ∷ 2 ∷ [])
    × (verdict (e 1 16 0 ∷ classes 16 100) ≡ [])
    × (verdict (e 1 17 0 ∷ classes 17 100) ≡ 2 ∷ 33 ∷ [])
    × (verdict (e 1 0 2 ∷ e 25 5 0 ∷ []) ≡ 2 ∷ 2 ∷ [])
    × (verdict (e 1 0 0 ∷ e 1 0 0 ∷ []) ≡ 2 ∷ 1 ∷ [])
unfolding cases_compute classes
two = (refl, refl, refl, refl, refl, refl)

-- 2, at depth 65: a function whose body is n signs before a number; entry k of them stands at depth k + 1
deep : (verdict (e 1 1 0 ∷ e 12 9 1 ∷ (replicate 61 (e 48 20 0) ++ (e 40 0 1 ∷ []))) ≡ [])
    × (verdict (e 1 1 0 ∷ e 12 9 1 ∷ (replicate 62 (e 48 20 0) ++ (e 40 0 1 ∷ []))) ≡ 2 ∷ 64 ∷ [])
unfolding cases_compute
deep = (refl, refl)

-- 3: goto 5, no label 5; "the second of two"
three : (verdict (e 1 0 1 ∷ e 25 5 0 ∷ []) ≡ 3 ∷ 1 ∷ []) × (verdict (e 1 2 1 ∷ e 10 5 1 ∷ e 10 6 1 ∷ e 20 5 0 ∷ []) ≡ 3 ∷ 3 ∷ [])
unfolding cases_compute
three = (refl, refl)

-- 4: true + 1
four : verdict (e 1 0 1 ∷ e 28 0 0 ∷ e 49 1 0 ∷ e 41 0 1 ∷ e 40 0 1 ∷ e 40 0 1 ∷ []) ≡ 4 ∷ 2 ∷ []
unfolding cases_compute
four = refl

-- 5: goto out of a procedure
five : verdict (e 1 1 1 ∷ e 12 9 0 ∷ e 25 5 0 ∷ e 20 5 0 ∷ []) ≡ 5 ∷ 2 ∷ []
unfolding cases_compute
five = refl

-- 6: 33 variables; in a procedure, its entry
six : (verdict (e 1 33 0 ∷ variables 33) ≡ 6 ∷ 0 ∷ []) × (verdict (e 1 2 0 ∷ e 10 90 1 ∷ e 12 91 0 ∷ e 1 33 0 ∷ variables 33) ≡ 6 ∷ 2 ∷ [])
unfolding cases_compute variables
six = (refl, refl)

-- 7: 0 bytes lent; exactly enough pass, and bytes past the macro stay
seven : (refusal_of (compile_on (λ t. Listing.code) (table_bytes Listing.table) []).verdict ≡ 7 ∷ 0 ∷ [])
    × (refusal_of (compile_on (λ t. 1 ∷ 2 ∷ []) (table_bytes Listing.table) (9 ∷ 9 ∷ [])).verdict ≡ [])
    × ((compile_on (λ t. 1 ∷ 2 ∷ []) (table_bytes Listing.table) (9 ∷ 9 ∷ 9 ∷ [])).bytes ≡ 1 ∷ 2 ∷ 9 ∷ [])
unfolding cases_compute Listing.code joined
seven = (refl, refl, refl)

-- ── macros ──
-- 8: mark QQ; a second SH; bytes after ZZ; a class that is not there
eight : (loading (81 ∷ 81 ∷ []) ≡ 8 ∷ 0 ∷ [])
    × (loading (joined (hd 0 1 1 2 ∷ bd 0 0 0 [] ∷ op 0 0 0 ∷ sh 0 0 [] ∷ sh 0 0 [] ∷ [])) ≡ 8 ∷ 4 ∷ [])
    × (loading (joined (hd 0 1 1 0 ∷ bd 0 0 0 [] ∷ op 0 0 0 ∷ []) ++ zz) ≡ 8 ∷ 4 ∷ [])
    × (loading (joined (hd 1 1 1 0 ∷ cl (1 ∷ 17 ∷ []) ∷ bd 0 0 0 [] ∷ op 0 0 0 ∷ [])) ≡ 8 ∷ 1 ∷ [])
    × (loading (joined (hd 1 1 1 0 ∷ cl (1 ∷ 16 ∷ []) ∷ bd 0 0 0 [] ∷ op 0 0 0 ∷ [])) ≡ [])
unfolding cases_compute joined
eight = (refl, refl, refl, refl, refl)

-- 8, request 10: nine instructions that set three levels and the end, with so many SH from record 12 on; out of order it is the first that does
-- not rise, also one of the same address, also where each is the state found there
unfoldable shaped : ℕ → List (List ℕ) → List ℕ
shaped n ss =
    let set = op 1 0 1 ∷ op 1 0 1 ∷ op 15 0 0 ∷ [] in
    joined (hd 0 1 10 n ∷ bd 0 0 0 [] ∷ (set ++ (set ++ (set ++ (op 0 0 0 ∷ ss)))))

in-address-order : (loading (shaped 3 (sh 4 0 [] ∷ sh 9 0 [] ∷ sh 7 0 [] ∷ [])) ≡ 8 ∷ 14 ∷ [])
    × (loading (shaped 2 (sh 4 0 (1 ∷ []) ∷ sh 4 0 (1 ∷ []) ∷ [])) ≡ 8 ∷ 13 ∷ [])
    × (loading (shaped 2 (sh 9 0 [] ∷ sh 4 0 (1 ∷ []) ∷ [])) ≡ 8 ∷ 13 ∷ [])
    × (loading (shaped 2 (sh 4 0 (1 ∷ []) ∷ sh 9 0 [] ∷ [])) ≡ [])
unfolding cases_compute joined shaped
in-address-order = (refl, refl, refl, refl)

-- 9: op 11 in the root
nine : loading (joined (hd 0 1 1 0 ∷ bd 0 0 0 [] ∷ op 11 0 0 ∷ [])) ≡ 9 ∷ 0 ∷ []
unfolding cases_compute joined
nine = refl

-- ── states and runs ──
-- 10: 24,575 bytes; bytes from which no state decodes
ten : (refusal_of (start_on Listing.code (replicate 24575 0)).verdict ≡ 10 ∷ 0 ∷ [])
    × (refusal_of (start_on Listing.code (replicate 24576 0)).verdict ≡ [])
    × ((run_on Listing.code (replicate 24576 0) (replicate 64 0) 9).answer ≡ refuses (record { number = 10; place = 0 }))
unfolding cases_compute joined Listing.code
ten = (refl, refl, refl)

-- a state that ended by 28, of a macro without an op 20, is sound; one that ended by 29 is not
carries-28 : ((run_on Listing.code (2 ∷ 28 ∷ replicate 24574 0) (replicate 64 0) 9).answer ≡ finishes 28 0)
    × ((run_on Listing.code (2 ∷ 29 ∷ replicate 24574 0) (replicate 64 0) 9).answer ≡ refuses (record { number = 10; place = 0 }))
unfolding cases_compute joined Listing.code
carries-28 = (refl, refl)

-- 11: 63 bytes, and then the same run with 64
eleven : ((run_on Listing.code (start_on Listing.code (replicate 24576 0)).bytes (replicate 63 0) 9).answer ≡ refuses (record { number = 11; place = 0 }))
    × (answer_numbers (run_on Listing.code (start_on Listing.code (replicate 24576 0)).bytes (replicate 64 0) 9).answer ≡ record { tag = 5; steps = 1; first = 7; second = 0 })
unfolding cases_compute joined Listing.code
eleven = (refl, refl)

-- ── ends ──
-- 20: 2147483647 + 1, in an assertion
twenty : executed (e 1 0 1 ∷ e 26 0 0 ∷ e 49 10 0 ∷ e 49 1 0 ∷ e 40 0 2147483647 ∷ e 40 0 1 ∷ e 40 0 0 ∷ []) 0 ≡ 20 ∷ []
unfolding cases_compute
twenty = refl

-- 21: 1 rem 0
twenty-one : executed (e 1 0 1 ∷ e 26 0 0 ∷ e 49 10 0 ∷ e 49 5 0 ∷ e 40 0 1 ∷ e 40 0 0 ∷ e 40 0 0 ∷ []) 0 ≡ 21 ∷ []
unfolding cases_compute
twenty-one = refl

-- 22: F(null); and as a target, after the value, which ends by 21 here
twenty-two : (executed (e 1 1 1 ∷ e 11 3 1 ∷ e 10 4 1 ∷ e 26 0 0 ∷ e 49 10 0 ∷ e 46 4 0 ∷ e 43 3 0 ∷ e 40 0 0 ∷ []) 0 ≡ 22 ∷ [])
    × (executed (e 1 1 1 ∷ e 11 3 1 ∷ e 10 4 1 ∷ e 21 0 0 ∷ e 46 4 0 ∷ e 43 3 0 ∷ e 40 0 7 ∷ []) 0 ≡ 22 ∷ [])
    × (executed (e 1 1 1 ∷ e 11 3 1 ∷ e 10 4 1 ∷ e 21 0 0 ∷ e 46 4 0 ∷ e 43 3 0 ∷ e 49 4 0 ∷ e 40 0 1 ∷ e 40 0 0 ∷ []) 0 ≡ 21 ∷ [])
unfolding cases_compute
twenty-two = (refl, refl, refl)

-- 23: assert 1 = 2
twenty-three : executed (e 1 0 1 ∷ e 26 0 0 ∷ e 49 10 0 ∷ e 40 0 1 ∷ e 40 0 2 ∷ []) 0 ≡ 23 ∷ []
unfolding cases_compute
twenty-three = refl

-- 24: case 0; case 2 of 2 goes on to the second; case 3 of 2
unfoldable case_of : ℕ → List Entry
case_of n = e 1 0 1 ∷ e 30 2 0 ∷ e 40 0 n ∷ e 28 0 0 ∷ e 40 0 1 ∷ e 40 0 10 ∷ e 28 0 0 ∷ e 40 0 2 ∷ e 40 0 20 ∷ []

twenty-four : (executed (case_of 0) 0 ≡ 24 ∷ []) × (executed (case_of 2) 0 ≡ 1 ∷ 2 ∷ 20 ∷ 0 ∷ []) × (executed (case_of 3) 0 ≡ 24 ∷ [])
unfolding cases_compute case_of
twenty-four = (refl, refl, refl)

-- 25: set 513, while 512 passes; level 256; fader 0, which reads nothing
unfoldable setting : ℕ → ℕ → List Entry
setting c l = e 1 0 1 ∷ e 28 0 0 ∷ e 40 0 c ∷ e 40 0 l ∷ []

twenty-five : (executed (setting 513 0) 0 ≡ 25 ∷ []) × (executed (setting 512 255) 0 ≡ 1 ∷ 512 ∷ 255 ∷ 0 ∷ []) × (executed (setting 1 256) 0 ≡ 25 ∷ [])
    × (executed (e 1 0 1 ∷ e 28 0 0 ∷ e 40 0 1 ∷ e 51 0 0 ∷ e 40 0 0 ∷ []) 0 ≡ 25 ∷ [])
unfolding cases_compute setting
twenty-five = (refl, refl, refl, refl)

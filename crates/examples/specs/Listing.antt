-- The listing example of paper 01: on the tree, and on a macro assembled by hand.
use Rattle.std.specs.Prelude.{◌≡◌, refl, List, [], ◌∷◌, ℕ}
use Rattle.language.specs.Table.{Entry}
use Rattle.examples.specs.Cases.{cases_compute}
use Rattle.examples.specs.Notation.{e, executed, hd, bd, op, sh, joined, loading, feed, answers}

abbrev pub table : List Entry
table =
    e 1 0 3 ∷ e 1 1 2 ∷ e 14 7 0 ∷ e 28 0 0 ∷ e 40 0 3 ∷ e 40 0 200 ∷ e 25 5 0 ∷ e 28 0 0 ∷ e 40 0 4 ∷ e 40 0 9 ∷ e 20 5 0 ∷ []

-- hold 7, set 3 200, release 7, end 0
on-the-tree : executed table 3 ≡ 2 ∷ 7 ∷ 0 ∷ 1 ∷ 3 ∷ 200 ∷ 3 ∷ 7 ∷ 0 ∷ 0 ∷ []
unfolding cases_compute
on-the-tree = refl

-- the goto lets go of the hold of the block that it leaves; the way past it has an SH with the hold open
unfoldable pub code : List ℕ
code = joined
    (hd 0 1 11 2 ∷ bd 0 0 0 []
    ∷ op 17 0 7 ∷ op 1 0 3 ∷ op 1 0 200 ∷ op 15 0 0 ∷ op 18 0 0 ∷ op 8 0 10
    ∷ op 18 0 0 ∷ op 1 0 4 ∷ op 1 0 9 ∷ op 15 0 0 ∷ op 0 0 0
    ∷ sh 6 1 [] ∷ sh 10 0 [] ∷ [])

pub passes : loading code ≡ []
unfolding cases_compute joined code
passes = refl

-- a run for each line: the answer's tag (5 hold, 4 set, 6 release, 3 end), its steps, its numbers
on-the-machine : answers code (feed 65535 ∷ feed 65535 ∷ feed 65535 ∷ feed 65535 ∷ [])
    ≡ 5 ∷ 1 ∷ 7 ∷ 0 ∷ 0 ∷ 4 ∷ 3 ∷ 3 ∷ 200 ∷ 0 ∷ 6 ∷ 1 ∷ 7 ∷ 0 ∷ 0 ∷ 3 ∷ 2 ∷ 0 ∷ 0 ∷ 0 ∷ []
unfolding cases_compute joined code
on-the-machine = refl

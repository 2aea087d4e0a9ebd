-- The marks of open holds among the names in sight: a lookup goes past them, and a goto counts them.
use Rattle.std.proofs.Math.Path.{◌≡◌, refl, sym}
use Rattle.std.proofs.Common.{◌∙◌}
use Rattle.std.specs.Prelude.{Bool}
use Rattle.std.proofs.Math.Bool.{true, false}
use mathlib.Core.List.{List, [], ◌∷◌, ◌++◌}
use Prim.Native.Nat.{ℕ, zero, suc, ◌+◌, ◌<◌}
use native.Mathlib.Omega.{arith}
use Rattle.std.proofs.Math.Dec.{eqb}
use borrow.Author.Tests.{ne_eqb, eqb-true, le-ltb}
use Rattle.logic.specs.Choice.{If◌then◌else◌}
use Rattle.language.specs.Tree.{Decl, declare, holding}
use Rattle.table_scopes.specs.Environment.{Item, item, Nothing, Def, find, here, adding, add_all}
use Rattle.table_scopes.specs.EnvironmentLaws.{first_in, Small, past-mark, passing-none}
use Rattle.compile_code.specs.Compile.{Around}
use Rattle.compile_nodes.specs.Knows.{hold_mark, passed_to, Walk, Knows}
use Rattle.table_scopes.specs.Sees.{Sees}
use Rattle.language.specs.Names.{Scope}

-- the holds that a head opens
unfoldable pub open_in : List Decl → ℕ
open_in [] = 0
open_in (declare x ∷ ds) = open_in ds
open_in (holding g ∷ ds) = suc (open_in ds)

-- a mark for each
unfoldable pub marks : ℕ → List Item
marks zero = []
marks (suc n) = item hold_mark 0 0 0 ∷ marks n

module _ (a : ℕ) (small : a < 65536) where
  pub find-marks : (n : ℕ) (v : List Item) → find a (marks n ++ v) ≡ find a v
  unfolding marks
  find-marks zero v = refl
  find-marks (suc n) v = past-mark a small hold_mark 0 0 0 (marks n ++ v) (omega arith) ∙ sym (passing-none (find a (marks n ++ v))) ∙ find-marks n v

  pub passed-marks : (n : ℕ) (v : List Item) → passed_to a (marks n ++ v) ≡ n + passed_to a v
  unfolding marks passed_to
  passed-marks zero v = omega arith
  passed-marks (suc n) v =
      let w : ¬ (hold_mark ≡ a) = omega arith in
      rw (ne_eqb hold_mark a w) (omega (arith, passed-marks n v))

  -- past another mark
  pub passed-mark : (k : ℕ) (v : List Item) → 65535 < k → k < 65539 → passed_to a (item k 0 0 0 ∷ v) ≡ passed_to a v
  unfolding passed_to
  passed-mark k v h g =
      let w : ¬ (k ≡ a) = omega arith in let u : ¬ (k ≡ hold_mark) = omega arith in
      rw (ne_eqb k a w, ne_eqb k hold_mark u)

  -- past or at a name
  pub passed-name : (b s n q : ℕ) (v : List Item) → b < 65536 → passed_to a (item b s n q ∷ v) ≡ (If eqb b a then 0 else passed_to a v)
  unfolding passed_to
  passed-name b s n q v h = let u : ¬ (b ≡ hold_mark) = omega arith in rw (ne_eqb b hold_mark u)

  -- names that are not a's
  pub passed-others : (is v : List Item) → Small is → first_in a is ≡ Nothing → passed_to a (add_all is v) ≡ passed_to a v
  unfolding add_all first_in Small
  passed-others [] v s h = refl
  passed-others (item b x n q ∷ is) v s h = go (eqb b a) refl h (λ k. passed-others is (adding (item b x n q) v) s.1 k)
    where
      same : eqb b a ≡ false → (c : Bool) → passed_to a (If c then v else item b x n q ∷ v) ≡ passed_to a v
      same e true = refl
      same e false = passed-name b x n q v s.0 ∙ rw e

      go : (t : Bool) → eqb b a ≡ t → (If t then Def x n q false else first_in a is) ≡ Nothing
          → (first_in a is ≡ Nothing → passed_to a (add_all is (adding (item b x n q) v)) ≡ passed_to a (adding (item b x n q) v))
          → passed_to a (add_all is (adding (item b x n q) v)) ≡ passed_to a v
      go true e k f = let z : ◌≡◌ {A = ℕ} 0 1 = cc in absurd (omega arith)
      go false e k f = f k ∙ same e (here b v)

  -- no hold lies between here and a name of the innermost block
  passed-still : (is v : List Item) → Small is → passed_to a v ≡ 0 → passed_to a (add_all is v) ≡ 0
  unfolding add_all Small
  passed-still [] v s h = h
  passed-still (item b x n q ∷ is) v s h = passed-still is (adding (item b x n q) v) s.1 (pick (here b v))
    where
      name : (c : Bool) → (If c then 0 else passed_to a v) ≡ 0
      name true = refl
      name false = h

      pick : (c : Bool) → passed_to a (If c then v else item b x n q ∷ v) ≡ 0
      pick true = h
      pick false = passed-name b x n q v s.0 ∙ name (eqb b a)

  pub passed_here : (is v : List Item) {t m p : ℕ} {w : Bool} → Small is → here a v ≡ false → first_in a is ≡ Def t m p w → passed_to a (add_all is v) ≡ 0
  unfolding add_all first_in Small here
  passed_here [] v s e h = let z : ◌≡◌ {A = ℕ} 0 1 = cc in absurd (omega arith)
  passed_here (item b x n q ∷ is) v {t} {m} {p} {w} s e h = go (eqb b a) refl h (λ c k. passed_here is (adding (item b x n q) v) s.1 c k)
    where
      first : eqb b a ≡ true → here b v ≡ false → passed_to a (adding (item b x n q) v) ≡ 0
      first f g = rw g (passed-name b x n q v s.0 ∙ rw f)

      apart : eqb b a ≡ false → (c : Bool) → here a (If c then v else item b x n q ∷ v) ≡ false
      apart f true = e
      apart f false = rw (le-ltb 65535 b (omega (arith, s.0)), f) e

      go : (y : Bool) → eqb b a ≡ y → (If y then Def x n q false else first_in a is) ≡ Def t m p w
          → (here a (adding (item b x n q) v) ≡ false → first_in a is ≡ Def t m p w → passed_to a (add_all is (adding (item b x n q) v)) ≡ 0)
          → passed_to a (add_all is (adding (item b x n q) v)) ≡ 0
      go true f k r = passed-still is (adding (item b x n q) v) s.1 (first f (rw (eqb-true b a f) e))
      go false f k r = r (apart f (here b v)) k

-- marks change nothing of what is seen and known
pub sees-marks : {l : List ℕ} {v : List Item} {ss : List Scope} (n : ℕ) → Sees l v ss → Sees l (marks n ++ v) ss
sees-marks {v = v} n h = record { sees = λ a k. rw (find-marks a k n v) (h.sees a k) }

pub knows-marks : {W : Walk} {v : List Item} {Γ : List Around} (n : ℕ) → Knows W v Γ → Knows W (marks n ++ v) Γ
knows-marks {v = v} n h = record { knows = λ a k. rw (find-marks a k n v) (h.knows a k) }

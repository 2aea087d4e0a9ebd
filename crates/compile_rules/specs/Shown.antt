-- The records of lines: the op and the shape of line n stand at address n.
use Rattle.std.specs.Prelude.{Bool, true, false, ◌≡◌, refl, List, [], ◌∷◌, ℕ, zero, suc, ◌+◌, ◌<◌, T, eqb}
use Rattle.std.proofs.Common.{ap, sym, ◌∙◌, subst, arith, eqb→eq, eq-eqb}
use Rattle.std.proofs.Math.Option.{Option, none, some}
use Rattle.std.proofs.Math.ListN.{get_elem?}
use Rattle.logic.specs.Options.{keep}
use Rattle.bytecode.specs.Macro.{Shape, Placed, Macro, shape_in}
use Rattle.bytecode.specs.Instructions.{instr_at, instruction}
use Rattle.compile_code.specs.Code.{Line, placed, placed_at}
use Rattle.compile_code.specs.Encode.{record_of, records_of}
use Rattle.compile_rules.specs.Records.{Writable, reads-back}

abbrev pub shape_at : List Line → ℕ → Option Shape
shape_at [] n = none
shape_at (l ∷ ls) zero = l.shape
shape_at (l ∷ ls) (suc n) = shape_at ls n

differ : (x y : ℕ) → (x ≡ y → ⊥) → eqb x y ≡ false
differ x y f = go (eqb x y) refl
  where
    go : (b : Bool) → eqb x y ≡ b → b ≡ false
    go false e = refl
    go true e = absurd (f (eqb→eq x y (subst T (sym e) tt)))

past : (o : Option Shape) (j i : ℕ) (ps : List Placed) → (j ≡ i → ⊥) → shape_in (placed_at o j ps) i ≡ shape_in ps i
unfolding shape_in
past none j i ps f = refl
past (some s) j i ps f = rw (differ j i f) refl

before : (ls : List Line) (j i : ℕ) → i < j → shape_in (placed j ls) i ≡ none
unfolding placed shape_in
before [] j i h = refl
before (l ∷ ls) j i h = past l.shape j i (placed (suc j) ls) (λ e. omega arith) ∙ before ls (suc j) i (omega arith)

pub shown : (ls : List Line) (j n : ℕ) → shape_in (placed j ls) (j + n) ≡ shape_at ls n
unfolding placed shape_in
shown [] j n = refl
shown (l ∷ ls) j zero = pick l.shape
  where
    pick : (o : Option Shape) → shape_in (placed_at o j (placed (suc j) ls)) (j + 0) ≡ o
    pick none = before ls (suc j) (j + 0) (omega arith)
    pick (some s) = rw (eq-eqb j (j + 0) (omega arith)) refl
shown (l ∷ ls) j (suc n) =
    let e : suc j + n ≡ j + suc n = omega arith in
    past l.shape j (j + suc n) (placed (suc j) ls) (λ u. omega arith) ∙ subst (λ z. shape_in (placed (suc j) ls) z ≡ shape_at ls n) e (shown ls (suc j) n)

recorded : (ls : List Line) (n : ℕ) (l : Line) → get_elem? ls n ≡ some l → get_elem? (records_of ls) n ≡ some (record_of l.instr)
unfolding records_of
recorded [] n l h = let z : ◌≡◌ {A = ℕ} 0 1 = cc h in absurd (omega arith)
recorded (x ∷ ls) zero l h = let z : x ≡ l = cc h in ap (λ y. some (record_of y.instr)) z
recorded (x ∷ ls) (suc n) l h = recorded ls n l h

pub fetched : (m : Macro) (ls : List Line) (n : ℕ) (l : Line) → m.code ≡ records_of ls → get_elem? ls n ≡ some l → Writable l.instr → instr_at m n ≡ some l.instr
fetched m ls n l e h w = ap (λ c. keep (get_elem? c n) instruction) e ∙ ap (λ o. keep o instruction) (recorded ls n l h) ∙ reads-back l.instr w

-- Where a shape stands, an operand has the type that it says, or the state is not sound.
use Rattle.std.specs.Prelude.{Bool, false, ◌&&◌, ◌≡◌, ℕ, ◌+◌, T, eqb, leb, ℤ, length}
use Rattle.std.proofs.Math.Bool.{true}
use Rattle.std.proofs.Math.Path.{refl, subst}
use Rattle.std.proofs.Common.{sym, arith, eqb→eq}
use mathlib.Core.List.{List, [], ◌∷◌}
use Rattle.std.proofs.Math.Option.{Option, none, some}
use Rattle.logic.specs.Lists.{all}
use Rattle.logic.specs.Options.{or_else}
use Rattle.values.specs.Types.{Ty, integer, logical, bits, reference, same, sames}
use Rattle.values.specs.Values.{Value, int, log, bit, ref, ty_of, tys_of}
use Rattle.language.specs.Tree.{Global}
use Rattle.language.specs.Faults.{is_ty}
use Rattle.language.specs.Execute.{Store, Result}
use Rattle.bytecode.specs.Macro.{Body, shape_in}
use Rattle.bytecode.specs.Instructions.{body_at, in_body}
use Rattle.bytecode.specs.Rules.{found_at, into}
use Rattle.bytecode.specs.Machine.{Made, Shared, Activation, running, put_lowest}
use Rattle.bytecode.specs.Sound.{sound_value, sound_record, sound_at, sound_activation, sound_waiting, sound}
use Rattle.compile_code.specs.Compile.{Around, held_in, found, or_integer, ty_in, class_names, classes_of, index_of}
use Rattle.compile_simulation.specs.Meets.{Conf, Setting, Meets, crash, here}
use Rattle.compile_simulation.specs.View.{Data}
use Rattle.compile_simulation.specs.Ops.{conf, top_of}
use Rattle.compile_simulation.specs.Counting.{Small, fits-small}
use Rattle.logic.specs.Tests.{halves, never}

no_code : {A : Type 0} (x y : ℕ) → (x ≡ y → ⊥) → eqb x y ≡ true → A
no_code x y f h = absurd (f (eqb→eq x y (subst T (sym h) tt)))

pub is-log : (w : Value) → same (ty_of w) logical ≡ true → (b : Bool) × (w ≡ log b)
is-log (int z) h = never h
is-log (log b) h = (b, refl)
is-log (bit n) h = never h
is-log (ref c r) h = no_code (65536 + c) 2 (λ e. omega arith) h

pub not-log : (gs : List Global) (x : Option Ty) (w : Value) → is_ty logical x ≡ false → same (ty_of w) (ty_in gs (or_integer x)) ≡ true → ty_of w ≡ logical → ⊥
not-log gs none w e h q = never (subst (λ t. same t (ty_in gs (or_integer none)) ≡ true) q h)
not-log gs (some integer) w e h q = never (subst (λ t. same t integer ≡ true) q h)
not-log gs (some logical) w e h q = never (sym e)
not-log gs (some bits) w e h q = never (subst (λ t. same t bits ≡ true) q h)
not-log gs (some (reference c)) w e h q =
    no_code 2 (65536 + index_of c (class_names (classes_of gs))) (λ z. omega arith) (subst (λ t. same t (reference (index_of c (class_names (classes_of gs)))) ≡ true) q h)

pub is-int : (w : Value) → same (ty_of w) integer ≡ true → (z : ℤ) × (w ≡ int z)
is-int (int z) h = (z, refl)
is-int (log b) h = never h
is-int (bit n) h = never h
is-int (ref c r) h = no_code (65536 + c) 1 (λ e. omega arith) h

module _ (W : Setting) where
  -- the operands are of the types that the shape has, and of 32 bits
  operands-sound : (s : Shared) (f : Activation) (fs : List Activation) (k : ℕ) (ts : List Ty) → shape_in W.macro.shapes f.address ≡ some (record { holds = k; operands = ts })
      → sound W.macro (running s f fs) ≡ true → (sames (tys_of f.operands) ts ≡ true) × (all (sound_value s.records) f.operands ≡ true)
  unfolding sound sound_activation found_at
  operands-sound s f fs k ts e h =
      let m = W.macro in let rs = s.records in
      let h₁ = (halves (leb (length (f ∷ fs)) 32) (leb (length rs) 256 && (all (sound_record m rs) rs && (sound_activation m rs [] f && sound_waiting m rs f.body fs))) h).1 in
      let h₂ = (halves (leb (length rs) 256) (all (sound_record m rs) rs && (sound_activation m rs [] f && sound_waiting m rs f.body fs)) h₁).1 in
      let h₃ = (halves (all (sound_record m rs) rs) (sound_activation m rs [] f && sound_waiting m rs f.body fs) h₂).1 in
      let h₄ = (halves (sound_activation m rs [] f) (sound_waiting m rs f.body fs) h₃).0 in
      let h₅ = (halves (in_body m f.body f.address) (sound_at m rs f [] (found_at m f.address) (body_at m f.body)) h₄).1 in
      let h₆ : sound_at m rs f [] (some (record { holds = k; operands = ts })) (body_at m f.body) ≡ true =
      subst (λ z. sound_at m rs f [] (or_else z (into m f.address)) (body_at m f.body) ≡ true) e h₅ in
      go (body_at m f.body) h₆
    where
      go : (b : Option Body) → sound_at W.macro s.records f [] (some (record { holds = k; operands = ts })) b ≡ true
          → (sames (tys_of f.operands) ts ≡ true) × (all (sound_value s.records) f.operands ≡ true)
      go none h = never h
      go (some b) h =
          let q = halves (sames (tys_of f.operands) ts) _ h in
          (q.0, (halves (all (sound_value s.records) f.operands) _ q.1).0)

  next-types : (w : Value) (st : List Value) (t : Ty) (ts : List Ty) → sames (tys_of (w ∷ st)) (t ∷ ts) ≡ true → (same (ty_of w) t ≡ true) × (sames (tys_of st) ts ≡ true)
  unfolding sames tys_of
  next-types w st t ts h = halves (same (ty_of w) t) (sames (tys_of st) ts) h

  next-sound : (rs : List Made) (w : Value) (st : List Value) → all (sound_value rs) (w ∷ st) ≡ true → (sound_value rs w ≡ true) × (all (sound_value rs) st ≡ true)
  unfolding all
  next-sound rs w st h = halves (sound_value rs w) (all (sound_value rs) st) h

  small_int : (rs : List Made) (w : Value) (z : ℤ) → w ≡ int z → sound_value rs w ≡ true → Small z
  unfolding sound_value
  small_int rs w z e h = fits-small z (subst (λ v. sound_value rs v ≡ true) e h)

  top-type : (w : Value) (st : List Value) (t : Ty) (ts : List Ty) → sames (tys_of (w ∷ st)) (t ∷ ts) ≡ true → same (ty_of w) t ≡ true
  top-type w st t ts h = (next-types w st t ts h).0

  module _ (gs : List Global) (k : ℕ) (fs : List Activation) {A : Type 0} {n : ℕ} {L : ℕ → Store → Conf → Type 0} {F : A → Store → Conf → Type 0} {r : Result A} where
    pub typed : (Γ : List Around) (w : Value) (st : List Value) (a : ℕ) (t : Ty) (ts : List Ty) (K : List ℕ) (D : Data) → shape_in W.macro.shapes a ≡ some (found Γ (t ∷ ts))
        → (same (ty_of w) t ≡ true → Meets W n L F (conf W gs k fs a (w ∷ st) K D) r) → Meets W n L F (conf W gs k fs a (w ∷ st) K D) r
    typed Γ w st a t ts K D e f = go (sound W.macro (running D.shared (top_of W gs k fs a (w ∷ st) K D) (put_lowest D.lowest fs))) refl
      where
        go : (b : Bool) → sound W.macro (running D.shared (top_of W gs k fs a (w ∷ st) K D) (put_lowest D.lowest fs)) ≡ b → Meets W n L F (conf W gs k fs a (w ∷ st) K D) r
        go true h = f (top-type w st t ts (operands-sound D.shared (top_of W gs k fs a (w ∷ st) K D) (put_lowest D.lowest fs) (length (held_in Γ)) (t ∷ ts) e h).0)
        go false h = crash (here h)

    -- three integers of 32 bits
    pub integers : (Γ : List Around) (u v w : Value) (st : List Value) (a : ℕ) (ts : List Ty) (K : List ℕ) (D : Data)
        → shape_in W.macro.shapes a ≡ some (found Γ (integer ∷ (integer ∷ (integer ∷ ts))))
        → ((x y z : ℤ) → u ≡ int x → v ≡ int y → w ≡ int z → Small x → Small y → Small z → Meets W n L F (conf W gs k fs a (w ∷ (v ∷ (u ∷ st))) K D) r)
        → Meets W n L F (conf W gs k fs a (w ∷ (v ∷ (u ∷ st))) K D) r
    unfolding sound_value
    integers Γ u v w st a ts K D e f = go (sound W.macro (running D.shared (top_of W gs k fs a (w ∷ (v ∷ (u ∷ st))) K D) (put_lowest D.lowest fs))) refl
      where
        rs : List Made
        rs = D.shared.records

        go : (b : Bool) → sound W.macro (running D.shared (top_of W gs k fs a (w ∷ (v ∷ (u ∷ st))) K D) (put_lowest D.lowest fs)) ≡ b
            → Meets W n L F (conf W gs k fs a (w ∷ (v ∷ (u ∷ st))) K D) r
        go true h =
            let q = operands-sound D.shared (top_of W gs k fs a (w ∷ (v ∷ (u ∷ st))) K D) (put_lowest D.lowest fs) (length (held_in Γ)) (integer ∷ (integer ∷ (integer ∷ ts))) e h in
            let t₁ = next-types w (v ∷ (u ∷ st)) integer (integer ∷ (integer ∷ ts)) q.0 in let t₂ = next-types v (u ∷ st) integer (integer ∷ ts) t₁.1 in
            let t₃ = next-types u st integer ts t₂.1 in
            let s₁ = next-sound rs w (v ∷ (u ∷ st)) q.1 in let s₂ = next-sound rs v (u ∷ st) s₁.1 in let s₃ = next-sound rs u st s₂.1 in
            let i = is-int w t₁.0 in let j = is-int v t₂.0 in let k = is-int u t₃.0 in
            f k.0 j.0 i.0 k.1 j.1 i.1 (small_int rs u k.0 k.1 s₃.0) (small_int rs v j.0 j.1 s₂.0) (small_int rs w i.0 i.1 s₁.0)
        go false h = crash (here h)

-- Lines through which the state flows have no fault: the loading rules at each address of a body.
use Rattle.std.specs.Prelude.{true, not, ◌&&◌, ◌||◌, ◌≡◌, ℕ, suc}
use Rattle.std.proofs.Math.Bool.{false}
use Rattle.std.proofs.Math.Path.{refl, ap}
use Rattle.std.proofs.Common.{ap₂, sym, ◌∙◌, arith, eq-eqb}
use mathlib.Core.List.{List, [], ◌∷◌}
use Rattle.std.proofs.Math.Option.{Option, none, some}
use Rattle.logic.specs.Options.{keep, is_some, or_else}
use Rattle.values.specs.Identical.{sames-refl}
use Rattle.bytecode.specs.Macro.{Shape, Macro, shape_in}
use Rattle.bytecode.specs.Instructions.{in_body, instr_at}
use Rattle.bytecode.specs.Rules.{Flow, on, fork, jump, halt, broken, same_shape, flow, flow_at, effect, passed, into, found_at, body_of, is_first, body_fault, shape_fault, lands, flow_fault, op_fault, fault_at}
use Rattle.compile_code.specs.Code.{Line}
use Rattle.compile_rules.specs.Flows.{Goes}
use Rattle.compile_rules.specs.Lines.{Enters, Good}

pub shape-refl : (s : Shape) → same_shape s s ≡ true
shape-refl s = ap₂ (λ a b. a && b) (eq-eqb s.holds s.holds refl) (sames-refl s.operands)

module _ (m : Macro) (k : ℕ) where
  abbrev pub Aimed : ℕ → Shape → Type 0
  Aimed t s = lands m k t s ≡ true

  abbrev pub NotFirst : List Line → ℕ → Type 0
  NotFirst [] i = Unit {0}
  NotFirst (l ∷ ls) i = is_first m.bodies i ≡ false

  -- the lines from address i on are the rest of body k
  abbrev pub Lined : List Line → ℕ → Type 0
  Lined [] i = in_body m k i ≡ false
  Lined (l ∷ ls) i =
      (instr_at m i ≡ some l.instr) × (shape_in m.shapes i ≡ l.shape) × (body_of m.bodies 0 i ≡ k) × (body_fault m.bodies 0 i ≡ false)
      × (in_body m k i ≡ true) × NotFirst ls (suc i) × Lined ls (suc i)

  abbrev pub Faultless : List Line → ℕ → Type 0
  Faultless [] i = Unit {0}
  Faultless (l ∷ ls) i = (fault_at m i ≡ false) × Faultless ls (suc i)

  found-is : (o f : Option Shape) (s : Shape) → Enters f o s → or_else o f ≡ some s
  found-is none f s h = h
  found-is (some t) none s h = ap some h.0
  found-is (some t) (some q) s h = ap some h.1

  shape-right : (o f : Option Shape) (s : Shape) → Enters f o s → shape_fault o f ≡ false
  shape-right none f s h = refl
  shape-right (some t) none s h = rw h.1 refl
  shape-right (some t) (some q) s h = rw (h.0, h.2, shape-refl t) refl

  goes-to : (w : Flow) (g : Option Shape) → Goes Aimed w g → passed w ≡ g
  goes-to (on s) g h = sym h
  goes-to (fork s t) g h = sym h.0
  goes-to (jump s t) g h = sym h.0
  goes-to halt g h = sym h
  goes-to broken g h = absurd h

  -- what must follow: a line where the state goes on, a shape or the end where it does not
  nothing : (s : Shape) → none ≡ some s → ⊥
  nothing s h = let z : ◌≡◌ {A = ℕ} 0 1 = cc h in omega arith

  inside-next : (ls : List Line) (i : ℕ) (s : Shape) (g : Option Shape) → g ≡ some s → Lined ls i → Good m k Aimed ls g → in_body m k i ≡ true
  inside-next [] i s g e l h = absurd (nothing s (sym h ∙ e))
  inside-next (x ∷ ls) i s g e l h = l.4

  closed-next : (ls : List Line) (i : ℕ) (g : Option Shape) → g ≡ none → Lined ls i → Good m k Aimed ls g → (not (in_body m k i) || is_some (shape_in m.shapes i)) ≡ true
  closed-next [] i g e l h = rw l refl
  closed-next (x ∷ ls) i g e l h = rw (l.4, l.1) (shown x.shape g h.0 e h.2)
    where
      shown : (o g : Option Shape) (s : Shape) → g ≡ none → Enters g o s → is_some o ≡ true
      shown none g s e u = absurd (nothing s (sym e ∙ u))
      shown (some t) g s e u = refl

  flow-right : (w : Flow) (ls : List Line) (i : ℕ) (g : Option Shape) → Goes Aimed w g → Lined ls (suc i) → Good m k Aimed ls g → flow_fault m k i w ≡ false
  flow-right (on s) ls i g h l z = rw (inside-next ls (suc i) s g h l z) refl
  flow-right (fork s t) ls i g h l z = rw (inside-next ls (suc i) s g h.0 l z, h.1) refl
  flow-right (jump s t) ls i g h l z = rw (closed-next ls (suc i) g h.0 l z, h.1) refl
  flow-right halt ls i g h l z = rw (closed-next ls (suc i) g h l z) refl
  flow-right broken ls i g h l z = absurd h

  pub faultless : (ls : List Line) (i : ℕ) (f : Option Shape) → Lined ls i → into m i ≡ f → Good m k Aimed ls f → Faultless ls i
  unfolding fault_at found_at into
  faultless [] i f l e h = tt
  faultless (x ∷ ls) i f l e h =
      let s = h.0 in
      let w = flow (effect m k x.instr s) s in
      let fl : flow_at m i s ≡ w = rw (l.0, l.2) refl in
      let fd : or_else (shape_in m.shapes i) (into m i) ≡ some s = rw (l.1, e) (found-is x.shape f s h.2) in
      let sf : shape_fault (shape_in m.shapes i) (into m i) ≡ false = rw (l.1, e) (shape-right x.shape f s h.2) in
      let of : op_fault m i (or_else (shape_in m.shapes i) (into m i)) ≡ false = rw fd (rw (l.2, l.0) (flow-right w ls i h.1 h.3 l.6 h.4)) in (
        rw (l.3, sf, of) refl,
        onward ls l.5 l.6 h.4 (ap (λ z. keep z (λ q. passed (flow_at m i q))) fd ∙ ap passed fl
            ∙ goes-to w h.1 h.3) (λ u v. faultless ls (suc i) h.1 l.6 u v),
      )
    where
      onward : (ls : List Line) → NotFirst ls (suc i) → Lined ls (suc i) → Good m k Aimed ls h.1 → keep (or_else (shape_in m.shapes i) (into m i)) (λ q. passed (flow_at m i q)) ≡ h.1
          → (into m (suc i) ≡ h.1 → Good m k Aimed ls h.1 → Faultless ls (suc i)) → Faultless ls (suc i)
      onward [] n l g u v = tt
      onward (y ∷ ls) n l g u v = v (rw n u) g

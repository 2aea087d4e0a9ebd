-- From code to its lines: what flows through the code flows through the lines.
use Rattle.std.specs.Prelude.{true, ◌≡◌, refl, List, [], ◌∷◌, ℕ, zero, suc, drop}
use Rattle.std.proofs.Common.{sym, ◌∙◌, subst, arith}
use Rattle.std.proofs.Math.Option.{Option, none, some}
use Rattle.std.proofs.Math.ListN.{get_elem?}
use Rattle.bytecode.specs.Macro.{Shape, Macro}
use Rattle.bytecode.specs.Rules.{roomy, flow, effect}
use Rattle.compile_code.specs.Code.{Code, nil, op, mark, cell, ◌▸◌, Line, first, lay}
use Rattle.compile_rules.specs.Flows.{Goes, Comes, Seg}

-- the state at a line, from what flows in and its shape
abbrev pub Enters : Option Shape → Option Shape → Shape → Type 0
Enters f none s = f ≡ some s
Enters none (some t) s = (t ≡ s) × (roomy t ≡ true)
Enters (some q) (some t) s = (q ≡ t) × (t ≡ s) × (roomy t ≡ true)

-- what begins at a place of a list stands there, and what follows after it
pub dropped : {A : Type 0} (xs : List A) (n : ℕ) (x : A) (rest : List A) → drop n xs ≡ x ∷ rest → (get_elem? xs n ≡ some x) × (drop (suc n) xs ≡ rest)
dropped [] zero x rest h = let z : ◌≡◌ {A = ℕ} 0 1 = cc h in absurd (omega arith)
dropped [] (suc n) x rest h = let z : ◌≡◌ {A = ℕ} 0 1 = cc h in absurd (omega arith)
dropped (y ∷ xs) zero x rest h = (cc h, cc h)
dropped (y ∷ xs) (suc n) x rest h = dropped xs n x rest h

module _ (m : Macro) (k : ℕ) where
  abbrev pub Good : (ℕ → Shape → Type 0) → List Line → Option Shape → Type 0
  Good Aim [] f = f ≡ none
  Good Aim (l ∷ ls) f = (s : Shape) × (g : Option Shape) × Enters f l.shape s × Goes Aim (flow (effect m k l.instr s) s) g × Good Aim ls g

  -- what really flows in (r), with the waiting mark (o), is the state (f)
  abbrev pub Rel : Option Shape → Option Shape → Option Shape → Type 0
  Rel r none f = r ≡ f
  Rel none (some t) f = (f ≡ some t) × (roomy t ≡ true)
  Rel (some q) (some t) f = (f ≡ some t) × (q ≡ t) × (roomy t ≡ true)

  pub clash : {A : Type 0} (s : Shape) → none ≡ some s → A
  clash s h = let z : ◌≡◌ {A = ℕ} 0 1 = cc h in absurd (omega arith)

  enters : (r o f : Option Shape) (s : Shape) → Rel r o f → f ≡ some s → Enters r o s
  enters r none f s h e = h ∙ e
  enters none (some t) f s h e = (cc (h.0, e), h.1)
  enters (some q) (some t) f s h e = (h.1, cc (h.0, e), h.2)

  marks : (r o f : Option Shape) (s : Shape) → Rel r o f → Comes f s → Rel r (first o s) (some s)
  marks none none none s h c = (refl, c)
  marks none none (some t) s h c = clash t h
  marks (some q) none none s h c = clash q (sym h)
  marks (some q) none (some t) s h c = (refl, cc (h, c.0), c.1)
  marks none (some u) none s h c = clash u h.0
  marks none (some u) (some t) s h c = (cc (h.0, c.0), h.1)
  marks (some q) (some u) none s h c = clash u h.0
  marks (some q) (some u) (some t) s h c = (cc (h.0, c.0), h.1, h.2)

  pub laid : (Aim : ℕ → Shape → Type 0) (x : Code) (f g r o : Option Shape) (c : Option Shape → List Line) → Seg m k Aim x f g → Rel r o f
      → ((r' o' : Option Shape) → Rel r' o' g → Good Aim (c o') r') → Good Aim (lay x o c) r
  unfolding Seg lay
  laid Aim nil f g r o c h rel z = z r o (subst (λ y. Rel r o y) h rel)
  laid Aim (op i) f g r o c h rel z = (h.0, g, enters r o f h.0 rel h.1, h.2, z g none refl)
  laid Aim (mark s) f g r o c h rel z = z r (first o s) (subst (λ y. Rel r (first o s) y) (sym h.1) (marks r o f s rel h.0))
  laid Aim (cell t) f g r o c h rel z = z r o (subst (λ y. Rel r o y) h rel)
  laid Aim (x ▸ y) f g r o c h rel z = laid Aim x f h.0 r o (λ p. lay y p c) h.1 rel (λ r' o' e. laid Aim y h.0 g r' o' c h.2 e z)

  -- a mark that waits is what flows in
  abbrev pub Agree : Option Shape → Option Shape → Type 0
  Agree none f = Unit {0}
  Agree (some s) f = f ≡ some s

  pub agree_on : (o f : Option Shape) (s : Shape) → Agree o f → Comes f s → first o s ≡ some s
  agree_on none f s a c = refl
  agree_on (some t) none s a c = clash t a
  agree_on (some t) (some u) s a c = cc (a, c.0)

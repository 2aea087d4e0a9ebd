-- A body's code that flows whatever its marks can be aimed at has no fault.
use Rattle.std.specs.Prelude.{true, ◌≡◌, ℕ, zero, suc, ◌+◌}
use Rattle.std.proofs.Math.Path.{refl, ap, subst}
use Rattle.std.proofs.Common.{sym, ◌∙◌}
use mathlib.Core.List.{List, [], ◌∷◌}
use Rattle.std.proofs.Math.Option.{Option, none, some}
use native.Mathlib.Omega.{arith}
use Rattle.std.proofs.Math.ListN.{get_elem?, drop}
use Rattle.bytecode.specs.Macro.{Shape, Macro, shape_in}
use Rattle.bytecode.specs.Instructions.{in_body}
use Rattle.bytecode.specs.Rules.{at_first, into}
use Rattle.compile_code.specs.Code.{Code, nil, op, mark, cell, ◌▸◌, At, at, after, Line, line, first, lay}
use Rattle.compile_rules.specs.Flows.{Seg, Marks}
use Rattle.compile_rules.specs.Lines.{Agree, agree_on, clash, Rel, Good, laid, dropped}
use Rattle.compile_rules.specs.Faultless.{Aimed, Lined, Faultless, faultless, shape-refl}

module _ (m : Macro) (k : ℕ) where
  Shows : List Line → ℕ → Shape → Type 0
  Shows ls n s = (l : Line) × (get_elem? ls n ≡ some l) × (l.shape ≡ some s)

  -- by address: the body begins at lo
  abbrev Real : ℕ → List Line → ℕ → Shape → Type 0
  Real lo ls a s = (n : ℕ) × (a ≡ lo + n) × Shows ls n s

  abbrev Later : List Line → Option Shape → ℕ → Type 0
  Later ls none n = Unit {0}
  Later ls (some s) n = Shows ls n s

  shift : (lo : ℕ) (x : Code) (p q : At) → p.address ≡ lo + q.address → (after x p).address ≡ lo + (after x q).address
  unfolding after
  shift lo nil p q e = e
  shift lo (op i) p q e = omega arith
  shift lo (mark s) p q e = e
  shift lo (cell t) p q e = e
  shift lo (x ▸ y) p q e = shift lo y (after x p) (after x q) (shift lo x p q e)

  module _ (lo : ℕ) (whole : List Line) where
    marked : (Aim : ℕ → Shape → Type 0) (P : Type 0) (x : Code) (p q : At) (f g o : Option Shape) (c : Option Shape → List Line)
        → p.address ≡ lo + q.address → Seg m k Aim x f g → Agree m k o f → drop q.address whole ≡ lay x o c
        → ((o' : Option Shape) → Agree m k o' g → drop (after x q).address whole ≡ c o' → Later whole o' (after x q).address × P) → Later whole o q.address × (Marks m k (Real lo whole) x p × P)
    unfolding Seg lay Marks after Shows
    marked Aim P nil p q f g o c e h w d z = let u = z o (subst (λ y. Agree m k o y) h w) d in (u.0, (tt, u.1))
    marked Aim P (op i) p q f g none c e h w d z = (tt, (tt, (z none tt (dropped whole q.address (line none i) (c none) d).1).1))
    marked Aim P (op i) p q f g (some s) c e h w d z =
        let u = dropped whole q.address (line (some s) i) (c none) d in ((line (some s) i, u.0, refl), (tt, (z none tt u.1).1))
    marked Aim P (cell t) p q f g o c e h w d z = let u = z o (subst (λ y. Agree m k o y) h w) d in (u.0, (tt, u.1))
    marked Aim P (mark s) p q f g o c e h w d z =
        let a = agree_on m k o f s w h.0 in
        let u = z (first o s) (subst (λ y. Agree m k y g) (sym a) h.1) d in
        let shown : Shows whole q.address s = subst (λ y. Later whole y q.address) a u.0 in
        (before o u.0, ((q.address, e, shown), u.1))
      where
        before : (o : Option Shape) → Later whole (first o s) q.address → Later whole o q.address
        before none v = tt
        before (some t) v = v
    marked Aim P (x ▸ y) p q f g o c e h w d z =
        let u = marked Aim (Marks m k (Real lo whole) y (after x p) × P) x p q f h.0 o (λ o'. lay y o' c) e h.1 w d
        (λ o' a v. marked Aim P y (after x p) (after x q) h.0 g o' c (shift lo x p q e) h.2 a v z) in
        (u.0, ((u.1.0, u.1.1.0), u.1.1.1))

  unfoldable pub lines_alone : Code → List Line
  lines_alone x = lay x none (λ o. [])

  free : (x : Code) (p : At) → Marks m k (λ a s. Unit {0}) x p
  unfolding Marks
  free nil p = tt
  free (op i) p = tt
  free (mark s) p = tt
  free (cell t) p = tt
  free (x ▸ y) p = (free x p, free y (after x p))

  -- a shape of a line of the body can be jumped to
  lined-at : (ls : List Line) (i n : ℕ) (l : Line) → Lined m k ls i → get_elem? ls n ≡ some l → (in_body m k (i + n) ≡ true) × (shape_in m.shapes (i + n) ≡ l.shape)
  lined-at [] i n l h e = let z : ◌≡◌ {A = ℕ} 0 1 = cc e in absurd (omega arith)
  lined-at (x ∷ ls) i zero l h e =
      let z : x ≡ l = cc e in let j : i ≡ i + 0 = omega arith in
      (subst (λ y. in_body m k y ≡ true) j h.4, subst (λ y. shape_in m.shapes y ≡ l.shape) j (h.1 ∙ ap (λ y. y.shape) z))
  lined-at (x ∷ ls) i (suc n) l h e =
      let r = lined-at ls (suc i) n l h.6 e in let j : suc i + n ≡ i + suc n = omega arith in
      (subst (λ y. in_body m k y ≡ true) j r.0, subst (λ y. shape_in m.shapes y ≡ l.shape) j r.1)

  aimed : (lo : ℕ) (ls : List Line) (a : ℕ) (s : Shape) → Lined m k ls lo → Real lo ls a s → Aimed m k a s
  unfolding Shows
  aimed lo ls a s l r =
      let q = lined-at ls lo r.0 r.2.0 l r.2.1 in
      subst (λ y. Aimed m k y s) (sym r.1) (rw (q.0, q.1, r.2.2) (shape-refl s))

  weaken : (A B : ℕ → Shape → Type 0) → ((a : ℕ) (s : Shape) → A a s → B a s) → (x : Code) (p : At) → Marks m k A x p → Marks m k B x p
  unfolding Marks
  weaken A B f nil p h = tt
  weaken A B f (op i) p h = tt
  weaken A B f (mark s) p h = f p.address s h
  weaken A B f (cell t) p h = tt
  weaken A B f (x ▸ y) p h = (weaken A B f x p h.0, weaken A B f y (after x p) h.1)

  -- every mark is the shape of its line
  module _ (x : Code) (p : At) (h : (Aim : ℕ → Shape → Type 0) → Marks m k Aim x p → Seg m k Aim x at_first none) (l : Lined m k (lines_alone x) p.address) where
    real : Marks m k (Real p.address (lines_alone x)) x p
    unfolding lines_alone
    real = (marked p.address (lines_alone x) (λ a s. Unit {0}) (Unit {0}) x p (at 0 0) at_first none none (λ o. []) (omega arith) (h (λ a s. Unit {0}) (free x p)) tt refl last).1.0
      where
        last : (o : Option Shape) → Agree m k o none → drop (after x (at 0 0)).address (lines_alone x) ≡ [] → Later (lines_alone x) o (after x (at 0 0)).address × Unit {0}
        last none u v = (tt, tt)
        last (some s) u v = clash m k s u

    pub shown-marks : Marks m k (λ a s. shape_in m.shapes a ≡ some s) x p
    unfolding Shows
    shown-marks = weaken (Real p.address (lines_alone x)) (λ a s. shape_in m.shapes a ≡ some s) (λ a s r.
        let q = lined-at (lines_alone x) p.address r.0 r.2.0 l r.2.1 in
        ap (shape_in m.shapes) r.1 ∙ q.1 ∙ r.2.2) x p real

    -- the state flows through it with every jump on a shape
    pub segged : Seg m k (Aimed m k) x at_first none
    segged = h (Aimed m k) (weaken (Real p.address (lines_alone x)) (Aimed m k) (λ a s. aimed p.address (lines_alone x) a s l) x p real)

    pub passes : into m p.address ≡ at_first → Faultless m k (lines_alone x) p.address
    unfolding lines_alone
    passes e = faultless m k (lines_alone x) p.address at_first l e (laid m k (Aimed m k) x at_first none at_first none (λ o. []) segged refl fin)
      where
        fin : (r o : Option Shape) → Rel m k r o none → Good m k (Aimed m k) [] r
        fin r none e = e
        fin none (some s) e = refl
        fin (some q) (some s) e = clash m k s e.0

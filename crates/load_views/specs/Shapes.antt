-- The shapes of the view: the one of an address, and how a state is compared with it.
use Rattle.std.specs.Prelude.{◌≡◌, true, false, cond, List, [], ◌∷◌, ◌++◌, eqb, ltb}
use Rattle.std.proofs.Math.Path.{refl}
use Rattle.std.proofs.Common.{◌∙◌, true≢false, arith}
use Rattle.std.proofs.Math.Bool.{and-false}
use Rattle.std.proofs.Math.Option.{Option, none, some}
use Prim.Native.Nat.{ℕ, zero, suc, ◌+◌, ◌≤◌, ◌<◌}
use Rattle.std.proofs.Math.Nat.{zero-add}
use Rattle.std.proofs.Math.ListN.{length-map}
use borrow.Author.Tests.{ltb-false, eqb-true, eq-eqb, ne_eqb}
use Rattle.logic.specs.Options.{or_else}
use Rattle.logic.specs.Choice.{If◌then◌else◌}
use Rattle.words.specs.Numbers.{byte_at, half_at}
use Rattle.values.specs.Types.{ty_byte, sames}
use Rattle.bytecode.specs.Macro.{Shape, Placed, shape_in}
use Rattle.bytecode.specs.Rules.{same_shape, shape_fault, lands as lands_in}
use Rattle.load_places.specs.Search.{alike}
use Rattle.load_places.specs.Records.{bodies, count, shapes, shape_place, first_of, find}
use Rattle.load_places.specs.Rules.{Flow, goes, ends, bad, shape_at, shape_types, equals, end_of, lands, meet}
use Rattle.load_places.specs.Index.{Well}
use Rattle.load_places.specs.Order.{shape-past, find_none}
use Rattle.load_views.specs.Lists.{span, span-snoc, backs-length}
use Rattle.logic.specs.Tests.{by-test, eqb_comm, leb-not, cond-and, halves}
use Rattle.load_views.specs.View.{stack_on, state_on, placed_on, view, shape_on, Typed, bytes}
use Rattle.load_views.specs.Known.{known-shape}
use Rattle.load_views.specs.Stack.{alike-bytes, alike_same, sames-sym, stack-bytes}
use Rattle.load_views.specs.Bodies.{in-body}

-- ── the shape of an address ──
shape-snoc : (ps : List Placed) (p : Placed) (x : ℕ)
    → shape_in (ps ++ (p ∷ [])) x ≡ or_else (shape_in ps x) (If eqb p.address x then some p.found else none)
unfolding shape_in
shape-snoc [] p x = refl
shape-snoc (q ∷ ps) p x = by-test (eqb q.address x) (λ e. rw e) (λ e. rw e (shape-snoc ps p x))

module _ (l : List ℕ) where
  shape-from : (n x : ℕ) → shape_in (span (λ k. placed_on l (shape_place l k)) 0 n) x ≡ shape_on l (find l n x)
  unfolding find
  shape-from zero x = (unfold span shape_in in refl)
  shape-from (suc n) x =
      rw (span-snoc (λ k. placed_on l (shape_place l k)) n 0, shape-snoc, shape-from n x, zero-add n)
      (by-test (eqb (find l n x) 0)
      (λ e. rw e (by-test (eqb (half_at l (shape_place l n + 2)) x)
      (λ h. rw (h, ne_eqb (shape_place l n) 0 (omega (arith, shape-past l n)))) (λ h. rw h)))
      (λ e. rw (e, e)))

  module _ (w : Well l) where
    find-typed : (n x : ℕ) → n ≤ shapes l → eqb (find l n x) 0 ≡ false → Typed l (find l n x + 6) (byte_at l (find l n x + 5))
    unfolding find
    find-typed zero x h e = absurd (true≢false e)
    find-typed (suc n) x h e =
        by-test (eqb (find l n x) 0)
        (λ q. by-test (eqb (half_at l (shape_place l n + 2)) x)
        (λ r. rw (q, r) (known-shape l w n h).1) (λ r. absurd (true≢false (rw (q, r) at e))))
        (λ q. rw q (find-typed n x (omega arith) q))

    pub shape-at : (x : ℕ) → shape_in (view l).shapes x ≡ shape_on l (shape_at l x)
    unfolding view shape_at
    shape-at x =
        by-test (ltb x (count l)) (λ h. rw h (shape-from (shapes l) x))
        (λ h. rw h (shape-from (shapes l) x ∙ rw (find_none l (shapes l) x (λ j g e. omega (arith, (known-shape l w j g).0, ltb-false x (count l) h)))))

    pub shape_typed : (x : ℕ) → eqb (shape_at l x) 0 ≡ false → Typed l (shape_at l x + 6) (byte_at l (shape_at l x + 5))
    unfolding shape_at
    shape_typed x e =
        by-test (ltb x (count l)) (λ h. rw h (find-typed (shapes l) x (omega arith) (rw h at e)))
        (λ h. absurd (true≢false (rw h at e)))

-- ── a state and a shape ──
-- what flows: a state, or nothing
abbrev pub state : Option Shape → Flow
state none = ends
state (some s) = goes s.holds (bytes s.operands)

same-sym : (s t : Shape) → same_shape s t ≡ same_shape t s
same-sym s t = rw (eqb_comm s.holds t.holds, sames-sym s.operands t.operands)

module _ (l : List ℕ) (p : ℕ) (t : Typed l (p + 6) (byte_at l (p + 5))) where
  equals-same : (s : Shape) → equals l p s.holds (bytes s.operands) ≡ same_shape s (state_on l p)
  unfolding equals
  equals-same s =
      let u = stack_on l (p + 6) (byte_at l (p + 5)) in
      let a : alike (bytes s.operands) (shape_types l p) ≡ sames s.operands u =
      rw (← stack-bytes l (p + 6) (byte_at l (p + 5)) t) (alike-bytes s.operands u) in
      rw a
      (by-test (sames s.operands u)
      (λ e. let same : bytes s.operands ≡ bytes u = alike_same _ _ (alike-bytes s.operands u ∙ e) in
      rw (same, length-map u ty_byte, backs-length, eq-eqb (byte_at l (p + 5)) (byte_at l (p + 5)) refl, e)
      (cond-and (eqb s.holds (byte_at l (p + 4))) true))
      (λ e. rw e (simp (cond-and, and-false))))

  agrees : (s : Shape) → same_shape s (state_on l p) ≡ true → state (some s) ≡ state (some (state_on l p))
  agrees s e =
      let b = halves (eqb s.holds (byte_at l (p + 4))) _ e in
      let u = (state_on l p).operands in
      rw (eqb-true s.holds (byte_at l (p + 4)) b.0, alike_same (bytes s.operands) (bytes u) (alike-bytes s.operands u ∙ b.1))

  meet_shape : (f : Option Shape) → eqb p 0 ≡ false
      → meet l p (state f) ≡ cond (shape_fault (some (state_on l p)) f) bad (state (some (state_on l p)))
  unfolding meet
  meet_shape none e =
      rw (e, leb-not (byte_at l (p + 4)) 16, backs-length, leb-not (byte_at l (p + 5)) 32, stack-bytes l (p + 6) (byte_at l (p + 5)) t)
      (by-test (ltb 16 (byte_at l (p + 4))) (λ h. rw h) (λ h. rw h (by-test (ltb 32 (byte_at l (p + 5))) (λ h. rw h) (λ h. rw h))))
  meet_shape (some s) e =
      rw (e, leb-not (byte_at l (p + 4)) 16, backs-length, leb-not (byte_at l (p + 5)) 32, equals-same s)
      (by-test (ltb 16 (byte_at l (p + 4))) (λ h. rw h) (λ h. rw h (by-test (ltb 32 (byte_at l (p + 5))) (λ h. rw h)
      (λ h. rw h (by-test (same_shape s (state_on l p)) (λ h. rw h (agrees s h)) (λ h. rw h))))))

module _ (l : List ℕ) (w : Well l) where
  pub meets : (i : ℕ) (f : Option Shape)
      → meet l (shape_at l i) (state f)
      ≡ cond (shape_fault (shape_in (view l).shapes i) f) bad (state (or_else (shape_in (view l).shapes i) f))
  unfolding meet
  meets i f =
      rw (shape-at l w i)
      (by-test (eqb (shape_at l i) 0) (λ e. rw e) (λ e. meet_shape l (shape_at l i) (shape_typed l w i e) f e ∙ rw e))

  pub lands-same : (k t : ℕ) (s : Shape) → k < bodies l → lands l k t s.holds (bytes s.operands) ≡ lands_in (view l) k t s
  unfolding lands
  lands-same k t s h =
      rw (in-body l k t h, shape-at l w t, leb-not (first_of l k) t)
      (by-test (ltb t (first_of l k)) (λ e. rw e)
      (λ e. rw e (by-test (ltb t (end_of l k))
      (λ e. rw e (by-test (eqb (shape_at l t) 0) (λ e. rw e)
      (λ e. rw e (equals-same l (shape_at l t) (shape_typed l w t e) s ∙ same-sym s (state_on l (shape_at l t))))))
      (λ e. rw e))))

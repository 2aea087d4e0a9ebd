-- The states found in a macro that passes: there is one at every address, it is within the limits, and what an op leaves is found next.
use Rattle.std.specs.Prelude.{◌≡◌, Bool, ◌&&◌, ◌||◌, eqb, leb, ltb, length}
use Rattle.std.proofs.Math.Path.{refl, ap, subst}
use Rattle.std.proofs.Common.{ap₂, sym, ◌∙◌, arith, eqb-true, eq-eqb, leb-true, ltb-false, le-leb}
use Rattle.std.proofs.Math.Bool.{true, false, not}
use mathlib.Core.List.{List, [], ◌∷◌, ◌++◌}
use Rattle.std.proofs.Math.Option.{Option, none, some}
use Prim.Native.Nat.{ℕ, zero, suc, ◌+◌, ◌≤◌, ◌<◌}
use Rattle.std.proofs.Math.ListN.{get_elem?}
use Rattle.std.proofs.lemmas.Bool.{not-false}
use Rattle.logic.specs.Options.{keep, is_some, or_else}
use Rattle.logic.specs.Choice.{If◌then◌else◌}
use Rattle.values.specs.Types.{Ty, logical, fits, sames, all_fit}
use Rattle.bytecode.specs.Macro.{Body, Shape, shape, Macro, shape_in}
use Rattle.bytecode.specs.Instructions.{Instr, body_at, in_body, instr_at}
use Rattle.bytecode.specs.Rules.{body_of, is_first, Effect, plain, takes, lets, jumps, forks, leaves, stops, wrong, effect, Flow, on, fork, jump, halt, broken, strip}
use Rattle.bytecode.specs.Rules.{roomy, on_if, stripped, one_less, same_shape, flow, flow_of, flow_at, passed, at_first, into, found_at, head_fault, body_fault, shape_fault}
use Rattle.bytecode.specs.Rules.{equal_shape, lands, closes, flow_fault, op_fault, fault_at}
use Rattle.logic.specs.Tests.{never, both, halves, neither}
use Rattle.logic.specs.OptionLaws.{never-some, same_some, kept}
use Rattle.values.specs.Identical.{sames→≡}
use Rattle.bytecode_laws.specs.Terms.{Passed, Allowed, Follows, Takes, Does}
use Rattle.bytecode_laws.specs.Bodies.{inside-code, body_is, inside-body, first-inside, no-first, at-first, same_body}

-- ── operands and limits ──
same_shape→≡ : (s t : Shape) → same_shape s t ≡ true → s ≡ t
same_shape→≡ s t h =
    let q = halves (eqb s.holds t.holds) (sames s.operands t.operands) h in
    ap₂ shape (eqb-true s.holds t.holds q.0) (sames→≡ s.operands t.operands q.1)

strip-length : (us ts rest : List Ty) → strip us ts ≡ some rest → length rest ≤ length ts
unfolding strip
strip-length [] ts rest h = let e : ts ≡ rest = cc in rw e (omega arith)
strip-length (u ∷ us) [] rest h = never-some h
strip-length (u ∷ us) (t ∷ ts) rest h = go (fits t u) h (strip-length us ts rest)
  where
    go : (b : Bool) → (If b then strip us ts else none) ≡ some rest → (strip us ts ≡ some rest → length rest ≤ length ts)
        → length rest ≤ suc (length ts)
    go true h r = let z = r h in omega arith
    go false h r = never-some h

strip-is : (us ts rest : List Ty) → strip us ts ≡ some rest → Takes us ts rest
unfolding strip all_fit
strip-is [] ts rest h = record { taken = []; fit = refl; parts = cc }
strip-is (u ∷ us) [] rest h = never-some h
strip-is (u ∷ us) (t ∷ ts) rest h = go (fits t u) refl h (strip-is us ts rest)
  where
    go : (b : Bool) → fits t u ≡ b → (If b then strip us ts else none) ≡ some rest → (strip us ts ≡ some rest → Takes us ts rest)
        → Takes (u ∷ us) (t ∷ ts) rest
    go true e h r =
        let q = r h in record { taken = t ∷ q.taken; fit = both e q.fit; parts = ap (λ xs. t ∷ xs) q.parts }
    go false e h r = never-some h

-- what goes on from a state within the limits is within them
passed-if : (b : Bool) (f : Flow) (t : Shape) → passed (on_if b f) ≡ some t → (b ≡ true) × (passed f ≡ some t)
passed-if true f t h = (refl, h)
passed-if false f t h = never-some h

roomy-on : (s t : Shape) → passed (on_if (roomy s) (on s)) ≡ some t → roomy t ≡ true
roomy-on s t h = let p = passed-if (roomy s) (on s) t h in let e : s ≡ t = same_some p.1 in rw e at p.0

roomy-passed : (e : Effect) (s t : Shape) → roomy s ≡ true → passed (flow e s) ≡ some t → roomy t ≡ true
unfolding flow
roomy-passed (plain ins outs) s t r h = go (strip ins s.operands) h
  where
    go : (o : Option (List Ty))
        → passed (stripped o (λ ts. on_if (roomy (shape s.holds (outs ++ ts))) (on (shape s.holds (outs ++ ts))))) ≡ some t → roomy t ≡ true
    go none h = never-some h
    go (some ts) h = roomy-on (shape s.holds (outs ++ ts)) t h
roomy-passed takes s t r h = roomy-on (shape (suc s.holds) s.operands) t h
roomy-passed lets s t r h = go s.holds (halves (leb s.holds 16) (leb (length s.operands) 32) r) h
  where
    go : (n : ℕ) → (leb n 16 ≡ true) × (leb (length s.operands) 32 ≡ true) → passed (one_less n s.operands) ≡ some t → roomy t ≡ true
    go zero q h = never-some h
    go (suc n) q h = subst (λ (x : Shape). roomy x ≡ true) (same_some h) (both (le-leb n 16 (omega (arith, leb-true (suc n) 16 q.0))) q.1)
roomy-passed (jumps j) s t r h = never-some h
roomy-passed (forks j) s t r h = go (strip (logical ∷ []) s.operands) refl h
  where
    go : (o : Option (List Ty)) → strip (logical ∷ []) s.operands ≡ o → passed (stripped o (λ ts. fork (shape s.holds ts) j)) ≡ some t
        → roomy t ≡ true
    go none e h = never-some h
    go (some ts) e h =
        let q = halves (leb s.holds 16) (leb (length s.operands) 32) r in
        subst (λ (x : Shape). roomy x ≡ true) (same_some h)
        (both q.0 (le-leb (length ts) 32
        (omega (arith, strip-length (logical ∷ []) s.operands ts e, leb-true (length s.operands) 32 q.1))))
roomy-passed (leaves ts) s t r h = never-some (passed-if (same_shape s (shape 0 ts)) halt t h).1
roomy-passed stops s t r h = never-some h
roomy-passed wrong s t r h = never-some h

roomy-passed-of : (o : Option Instr) (m : Macro) (k : ℕ) (s t : Shape) → roomy s ≡ true → passed (flow_of o m k s) ≡ some t → roomy t ≡ true
roomy-passed-of none m k s t r h = never-some h
roomy-passed-of (some x) m k s t r h = roomy-passed (effect m k x s) s t r h

-- ── bodies' heads ──
head-fine : (bs : List Body) (n k : ℕ) (b : Body) → get_elem? bs k ≡ some b → body_fault bs n b.first ≡ false → head_fault (n + k) b ≡ false
unfolding body_fault
head-fine [] n k b h f = never-some h
head-fine (c ∷ bs) n zero b h f =
    let e : c ≡ b = cc in
    let t = eq-eqb c.first b.first (ap (λ (x : Body). x.first) e) in
    let q : head_fault n c ≡ false = rw t at (neither (eqb c.first b.first && head_fault n c) (body_fault bs (suc n) b.first) f).0 in
    let z : n + 0 ≡ n = omega arith in
    rw (z, ← e) q
head-fine (c ∷ bs) n (suc k) b h f =
    let z : n + suc k ≡ suc n + k = omega arith in
    rw z (head-fine bs (suc n) k b h (neither (eqb c.first b.first && head_fault n c) (body_fault bs (suc n) b.first) f).1)

few-cells : (k : ℕ) (b : Body) → head_fault k b ≡ false → length b.cells ≤ 32
few-cells zero b h = ltb-false 32 (length b.cells)
    (neither (not (eqb b.parameters 0 && sames b.results [])) (ltb 32 (length b.cells)) h).1
few-cells (suc k) b h = ltb-false 32 (length b.cells) h

root-head : (b : Body) → head_fault 0 b ≡ false → (b.parameters ≡ 0) × (b.results ≡ [])
root-head b h =
    let p = not-false (eqb b.parameters 0 && sames b.results [])
    (neither (not (eqb b.parameters 0 && sames b.results [])) (ltb 32 (length b.cells)) h).0 in
    let q = halves (eqb b.parameters 0) (sames b.results []) p in
    (eqb-true b.parameters 0 q.0, sames→≡ b.results [] q.1)

module _ (m : Macro) (w : Passed m) where
  faults : (i : ℕ) → i < length m.code
      → (body_fault m.bodies 0 i ≡ false) × (shape_fault (shape_in m.shapes i) (into m i) ≡ false) × (op_fault m i (found_at m i) ≡ false)
  unfolding fault_at
  faults i h =
      let p = neither (body_fault m.bodies 0 i) (shape_fault (shape_in m.shapes i) (into m i) || op_fault m i (found_at m i)) (w.faultless i h) in
      let q = neither (shape_fault (shape_in m.shapes i) (into m i)) (op_fault m i (found_at m i)) p.1 in
      (p.0, q.0, q.1)

  body-head : (k : ℕ) (b : Body) → body_at m k ≡ some b → head_fault k b ≡ false
  body-head k b h =
      let z : 0 + k ≡ k = omega arith in
      rw z at (head-fine m.bodies 0 k b h
      (faults b.first (inside-code m w.well-formed k b.first (first-inside m w.well-formed k b h))).0)

  pub cells-few : (k : ℕ) (b : Body) → body_at m k ≡ some b → length b.cells ≤ 32
  cells-few k b h = few-cells k b (body-head k b h)

  pub root-takes-nothing : (b : Body) → body_at m 0 ≡ some b → (b.parameters ≡ 0) × (b.results ≡ [])
  root-takes-nothing b h = root-head b (body-head 0 b h)

  -- ── the state found ──
  shape-found : (i : ℕ) (u : Shape) → shape_in m.shapes i ≡ some u → found_at m i ≡ some u
  unfolding found_at
  shape-found i u h = rw h

  -- what flows into an address is found there
  entered : (i : ℕ) (t : Shape) → i < length m.code → into m i ≡ some t → found_at m i ≡ some t
  unfolding found_at
  entered i t p h = go (shape_in m.shapes i) (faults i p).1
    where
      go : (o : Option Shape) → shape_fault o (into m i) ≡ false → or_else o (into m i) ≡ some t
      go none f = h
      go (some u) f =
          let g : not (roomy u && same_shape t u) ≡ false = rw h at f in
          ap some (sym (same_shape→≡ t u (halves (roomy u) (same_shape t u) (not-false (roomy u && same_shape t u) g)).1))

  -- a state within the limits
  room : (i : ℕ) (s : Shape) → i < length m.code → ((t : Shape) → into m i ≡ some t → roomy t ≡ true) → found_at m i ≡ some s → roomy s ≡ true
  unfolding found_at
  room i s p r h = go (shape_in m.shapes i) (into m i) (faults i p).1 r h
    where
      go : (o f : Option Shape) → shape_fault o f ≡ false → ((t : Shape) → f ≡ some t → roomy t ≡ true) → or_else o f ≡ some s → roomy s ≡ true
      go none f e r h = r s h
      go (some u) none e r h = subst (λ (x : Shape). roomy x ≡ true) (same_some h) (not-false (roomy u) e)
      go (some u) (some t) e r h = subst (λ (x : Shape). roomy x ≡ true) (same_some h)
          (halves (roomy u) (same_shape t u) (not-false (roomy u && same_shape t u) e)).0

  room-into : (i : ℕ) (t : Shape) → i < length m.code → into m i ≡ some t → roomy t ≡ true
  unfolding into found_at
  room-into zero t p h = subst (λ (x : Shape). roomy x ≡ true) (same_some h) refl
  room-into (suc i) t p h = go (is_first m.bodies (suc i)) h (λ s. room i s (omega arith) (λ u. room-into i u (omega arith)))
    where
      go : (b : Bool) → (If b then at_first else keep (found_at m i) (λ s. passed (flow_at m i s))) ≡ some t
          → ((s : Shape) → found_at m i ≡ some s → roomy s ≡ true) → roomy t ≡ true
      go true h r = subst (λ (x : Shape). roomy x ≡ true) (same_some h) refl
      go false h r =
          let q = kept (found_at m i) (λ s. passed (flow_at m i s)) t h in
          roomy-passed-of (instr_at m i) m (body_of m.bodies 0 i) q.0 t (r q.0 q.1) q.2

  pub within-limits : (k i : ℕ) (s : Shape) → Allowed m k i s → (s.holds ≤ 16) × (length s.operands ≤ 32)
  within-limits k i s a =
      let p = inside-code m w.well-formed k i a.inside in
      let q = halves (leb s.holds 16) (leb (length s.operands) 32) (room i s p (λ t. room-into i t p) a.found) in
      (leb-true s.holds 16 q.0, leb-true (length s.operands) 32 q.1)

  -- ── the next state ──
  next : (k i : ℕ) (s t : Shape) → Allowed m k i s → in_body m k (suc i) ≡ true → passed (flow_at m i s) ≡ some t → Allowed m k (suc i) t
  unfolding into found_at
  next k i s t a p h =
      record {
        inside = p;
        found = entered (suc i) t (inside-code m w.well-formed k (suc i) p)
            (rw (no-first m w.well-formed k i a.inside p) (rw a.found h));
      }

  landing : (k j : ℕ) (s : Shape) → lands m k j s ≡ true → Allowed m k j s
  landing k j s h =
      let q = halves (in_body m k j) (equal_shape (shape_in m.shapes j) s) h in
      record { inside = q.0; found = go (shape_in m.shapes j) refl q.1 }
    where
      go : (o : Option Shape) → shape_in m.shapes j ≡ o → equal_shape o s ≡ true → found_at m j ≡ some s
      go none e h = never h
      go (some u) e h = shape-found j u e ∙ ap some (same_shape→≡ u s h)

  flows : (k i : ℕ) (s : Shape) → Allowed m k i s → (f : Flow) → flow_at m i s ≡ f → flow_fault m k i f ≡ false → Follows m k i f
  flows k i s a (on t) e h = next k i s t a (not-false (in_body m k (suc i)) h) (ap passed e)
  flows k i s a (fork t j) e h =
      let q = halves (in_body m k (suc i)) (lands m k j t) (not-false (in_body m k (suc i) && lands m k j t) h) in
      (next k i s t a q.0 (ap passed e), landing k j t q.1)
  flows k i s a (jump t j) e h = landing k j t (halves (closes m k i) (lands m k j t) (not-false (closes m k i && lands m k j t) h)).1
  flows k i s a halt e h = tt
  flows k i s a broken e h = never (sym h)

  -- no fault of the op at an allowed address
  op-fine : (k i : ℕ) (s : Shape) → Allowed m k i s → flow_fault m k i (flow_of (instr_at m i) m k s) ≡ false
  op-fine k i s a =
      let p = inside-code m w.well-formed k i a.inside in
      rw (body_is m w.well-formed k i a.inside) at (rw a.found at (faults i p).2)

  pub follows : (k i : ℕ) (s : Shape) → Allowed m k i s → (x : Instr) × (instr_at m i ≡ some x) × Follows m k i (flow (effect m k x s) s)
  follows k i s a = go (instr_at m i) refl (op-fine k i s a)
    where
      go : (o : Option Instr) → instr_at m i ≡ o → flow_fault m k i (flow_of o m k s) ≡ false
          → (x : Instr) × (o ≡ some x) × Follows m k i (flow (effect m k x s) s)
      go none e h = never (sym h)
      go (some x) e h = (
        x,
        refl,
        flows k i s a (flow (effect m k x s) s)
            (ap₂ (λ o b. flow_of o m b s) e (body_is m w.well-formed k i a.inside)) h,
      )

  pub does : (k i : ℕ) (s : Shape) (e : Effect) → Follows m k i (flow e s) → Does m k i s e
  unfolding flow
  does k i s (plain ins outs) f = go (strip ins s.operands) refl f
    where
      pick : (ts : List Ty) (b : Bool) → Follows m k i (on_if b (on (shape s.holds (outs ++ ts))))
          → Allowed m k (suc i) (shape s.holds (outs ++ ts))
      pick ts true f = f
      pick ts false f = absurd f

      go : (o : Option (List Ty)) → strip ins s.operands ≡ o
          → Follows m k i (stripped o (λ ts. on_if (roomy (shape s.holds (outs ++ ts))) (on (shape s.holds (outs ++ ts)))))
          → (under : List Ty) × Takes ins s.operands under × Allowed m k (suc i) (shape s.holds (outs ++ under))
      go none e f = absurd f
      go (some ts) e f = (ts, strip-is ins s.operands ts e, pick ts (roomy (shape s.holds (outs ++ ts))) f)
  does k i s takes f = pick (roomy (shape (suc s.holds) s.operands)) f
    where
      pick : (b : Bool) → Follows m k i (on_if b (on (shape (suc s.holds) s.operands)))
          → Allowed m k (suc i) (shape (suc s.holds) s.operands)
      pick true f = f
      pick false f = absurd f
  does k i s lets f = go s.holds refl f
    where
      go : (n : ℕ) → s.holds ≡ n → Follows m k i (one_less n s.operands) → (h : ℕ) × (s.holds ≡ suc h)
          × Allowed m k (suc i) (shape h s.operands)
      go zero e f = absurd f
      go (suc n) e f = (n, e, f)
  does k i s (jumps j) f = f
  does k i s (forks j) f = go (strip (logical ∷ []) s.operands) refl f
    where
      go : (o : Option (List Ty)) → strip (logical ∷ []) s.operands ≡ o → Follows m k i (stripped o (λ ts. fork (shape s.holds ts) j))
          → (under : List Ty) × Takes (logical ∷ []) s.operands under × Allowed m k (suc i) (shape s.holds under)
          × Allowed m k j (shape s.holds under)
      go none e f = absurd f
      go (some ts) e f = (ts, strip-is (logical ∷ []) s.operands ts e, f.0, f.1)
  does k i s (leaves ts) f = go (same_shape s (shape 0 ts)) refl f
    where
      go : (b : Bool) → same_shape s (shape 0 ts) ≡ b → Follows m k i (on_if b halt) → s ≡ shape 0 ts
      go true e f = same_shape→≡ s (shape 0 ts) e
      go false e f = absurd f
  does k i s stops f = tt
  does k i s wrong f = absurd f

  -- ── a state at every address ──
  behind : (i : ℕ) (o : Option Shape) → shape_in m.shapes i ≡ o → is_some o ≡ true → (t : Shape) × (found_at m i ≡ some t)
  behind i none e h = never h
  behind i (some u) e h = (u, shape-found i u e)

  after : (k i : ℕ) (s : Shape) → Allowed m k i s → in_body m k (suc i) ≡ true → (f : Flow) → flow_at m i s ≡ f → flow_fault m k i f ≡ false
      → (t : Shape) × (found_at m (suc i) ≡ some t)
  after k i s a p (on t) e h = (t, (next k i s t a p (ap passed e)).found)
  after k i s a p (fork t j) e h = (t, (next k i s t a p (ap passed e)).found)
  after k i s a p (jump t j) e h = behind (suc i) (shape_in m.shapes (suc i)) refl
      (rw p at (halves (closes m k i) (lands m k j t) (not-false (closes m k i && lands m k j t) h)).0)
  after k i s a p halt e h = behind (suc i) (shape_in m.shapes (suc i)) refl (rw p at (not-false (closes m k i) h))
  after k i s a p broken e h = never (sym h)

  everywhere : (i : ℕ) → i < length m.code → (s : Shape) × (found_at m i ≡ some s)
  unfolding into
  everywhere zero p = (shape 0 [], entered 0 (shape 0 []) p refl)
  everywhere (suc i) p = go (is_first m.bodies (suc i)) refl (everywhere i (omega arith))
    where
      go : (b : Bool) → is_first m.bodies (suc i) ≡ b → (s : Shape) × (found_at m i ≡ some s) → (t : Shape) × (found_at m (suc i) ≡ some t)
      go true e r = (shape 0 [], entered (suc i) (shape 0 []) p (rw e))
      go false e r =
          let k = body_of m.bodies 0 i in
          let here = inside-body m w.well-formed i (omega arith) in
          let there : in_body m k (suc i) ≡ true = rw (same_body m.bodies 0 i e) at (inside-body m w.well-formed (suc i) p) in
          let a : Allowed m k i r.0 = record { inside = here; found = r.1 } in
          after k i r.0 a there (flow_at m i r.0) refl (op-fine k i r.0 a)

  pub found-everywhere : (k i : ℕ) → in_body m k i ≡ true → (s : Shape) × Allowed m k i s
  found-everywhere k i h = let q = everywhere i (inside-code m w.well-formed k i h) in (q.0, record { inside = h; found = q.1 })

  -- a body begins with no holds and no operands
  pub begins-empty : (k : ℕ) (b : Body) → body_at m k ≡ some b → Allowed m k b.first (shape 0 [])
  begins-empty k b h =
      let p = first-inside m w.well-formed k b h in
      record {
        inside = p;
        found = entered b.first (shape 0 []) (inside-code m w.well-formed k b.first p)
            (at-start b.first (at-first m.bodies k b h));
      }
    where
      at-start : (i : ℕ) → is_first m.bodies i ≡ true → into m i ≡ some (shape 0 [])
      at-start zero e = unfold into in refl
      at-start (suc i) e = unfold into in rw e

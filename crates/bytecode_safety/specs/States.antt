-- Sound states as facts: what the test of a sound state says, and back.
use Rattle.std.specs.Prelude.{◌≡◌, Bool, ℕ, ◌*◌, ◌≤◌, eqb, leb, length}
use Rattle.std.proofs.Math.Path.{refl, ap, ap₂}
use Rattle.std.proofs.Common.{sym, ◌∙◌, subst}
use Rattle.std.proofs.Math.Bool.{true}
use mathlib.Core.List.{List, [], ◌∷◌, ◌++◌, map}
use Rattle.std.proofs.Math.Option.{Option, none, some}
use native.Mathlib.Omega.{arith}
use Rattle.std.proofs.Math.ListN.{get_elem?, length-append}
use borrow.Author.Tests.{eqb-true, eq-eqb, leb-true, le-leb}
use Rattle.logic.specs.Lists.{all}
use Rattle.logic.specs.Options.{keep}
use Rattle.values.specs.Types.{Ty, sames}
use Rattle.values.specs.Ends.{is_condition}
use Rattle.values.specs.Values.{Value, tys_of, Cell, ty_of_cell}
use Rattle.bytecode.specs.Macro.{Body, Code, Shape, shape, Macro}
use Rattle.bytecode.specs.Instructions.{call, exactly, instruction, body_at, in_body, instr_at, cells_of}
use Rattle.bytecode.specs.Rules.{found_at, on_stack}
use Rattle.bytecode.specs.Machine.{Activation, Made, Shared, Here, running, unwinding, end_by, all_holds, at}
use Rattle.bytecode.specs.Sound.{sound_value, typed_values, sound_cell, typed_cells, sound_record, sound_group, sound_at, sound_activation, calls_body, parameters_of, sound_waiting, sound}
use Rattle.logic.specs.Tests.{never, both, halves}
use Rattle.values.specs.Identical.{sames→≡, sames-refl}
use Rattle.bytecode_laws.specs.Terms.{Passed, Allowed}
use Rattle.bytecode_laws.specs.Promises.{body-exists, limits, call-record}
use Rattle.bytecode_safety.specs.Lists.{all_append}

-- ── activations ──
-- what holds of an activation wherever it stands
pub record Frame (m : Macro) (rs : List Made) (f : Activation) : Type 0 where
  pub groups : all sound_group f.holds ≡ true
  pub types : map ty_of_cell f.cells ≡ cells_of (body_at m f.body)
  pub values : all (sound_cell rs) f.cells ≡ true

-- it stands where the loading rules allow, with operands of which some are taken
pub record Stands (m : Macro) (rs : List Made) (taken : List Ty) (f : Activation) : Type 0 where
  pub allowed : Allowed m f.body f.address (shape (length f.holds) (taken ++ tys_of f.operands))
  pub operands : all (sound_value rs) f.operands ≡ true
  pub frame : Frame m rs f

-- at a call of body k, arguments taken
pub record Waits (m : Macro) (rs : List Made) (k : ℕ) (f : Activation) : Type 0 where
  pub calls : instr_at m f.address ≡ some (call k)
  pub stands : Stands m rs (on_stack (parameters_of (body_at m k))) f

abbrev pub Waiting : Macro → List Made → ℕ → List Activation → Type 0
Waiting m rs k [] = k ≡ 0
Waiting m rs k (f ∷ fs) = Waits m rs k f × Waiting m rs f.body fs

-- a running state, but for where its top stands and the top's operands
pub record Around (m : Macro) (h : Here) : Type 0 where
  pub few : length (h.top ∷ h.below) ≤ 32
  pub few-records : length h.shared.records ≤ 256
  pub made : all (sound_record m h.shared.records) h.shared.records ≡ true
  pub frame : Frame m h.shared.records h.top
  pub below-waits : Waiting m h.shared.records h.top.body h.below

-- at another address, with other operands
pub frame_at : (m : Macro) (rs : List Made) (f : Activation) (i : ℕ) (vs : List Value) → Frame m rs f → Frame m rs (at i vs f)
frame_at m rs f i vs x = record { groups = x.groups; types = x.types; values = x.values }

pub around-at : (m : Macro) (h : Here) (i : ℕ) (vs : List Value) → Around m h
    → Around m (record { shared = h.shared; top = at i vs h.top; below = h.below })
around-at m h i vs x =
    record {
      few = x.few;
      few-records = x.few-records;
      made = x.made;
      frame = frame_at m h.shared.records h.top i vs x.frame;
      below-waits = x.below-waits;
    }

-- ── from the test, and back ──
pub typed : (rs : List Made) (vs : List Value) (ts : List Ty) → typed_values rs vs ts ≡ true → (tys_of vs ≡ ts) × (all (sound_value rs) vs ≡ true)
typed rs vs ts h = let q = halves (sames (tys_of vs) ts) (all (sound_value rs) vs) h in (sames→≡ (tys_of vs) ts q.0, q.1)

pub typed-back : (rs : List Made) (vs : List Value) (ts : List Ty) → tys_of vs ≡ ts → all (sound_value rs) vs ≡ true → typed_values rs vs ts ≡ true
typed-back rs vs ts e a = both (subst (λ x. sames (tys_of vs) x ≡ true) e (sames-refl (tys_of vs))) a

pub typed-cells : (rs : List Made) (cs : List Cell) (ts : List Ty) → typed_cells rs cs ts ≡ true
    → (map ty_of_cell cs ≡ ts) × (all (sound_cell rs) cs ≡ true)
typed-cells rs cs ts h = let q = halves (sames (map ty_of_cell cs) ts) (all (sound_cell rs) cs) h in (sames→≡ (map ty_of_cell cs) ts q.0, q.1)

typed-cells-back : (rs : List Made) (cs : List Cell) (ts : List Ty) → map ty_of_cell cs ≡ ts → all (sound_cell rs) cs ≡ true
    → typed_cells rs cs ts ≡ true
typed-cells-back rs cs ts e a = both (subst (λ x. sames (map ty_of_cell cs) x ≡ true) e (sames-refl (map ty_of_cell cs))) a

op-10 : (c : Code) → c.op ≡ 10 → instruction c ≡ exactly (eqb c.a 0) (call c.b)
unfolding instruction
op-10 c e = rw e

module _ (m : Macro) (rs : List Made) where
  stands : (taken : List Ty) (f : Activation) → sound_activation m rs taken f ≡ true → Stands m rs taken f
  unfolding sound_activation
  stands taken f h =
      let q = halves (in_body m f.body f.address) (sound_at m rs f taken (found_at m f.address) (body_at m f.body)) h in
      pick q.0 (found_at m f.address) refl (body_at m f.body) refl q.1
    where
      pick : in_body m f.body f.address ≡ true → (o : Option Shape) → found_at m f.address ≡ o → (p : Option Body) → body_at m f.body ≡ p
          → sound_at m rs f taken o p ≡ true → Stands m rs taken f
      pick i none e p d h = never h
      pick i (some s) e none d h = never h
      pick i (some s) e (some b) d h =
          let a = halves (sames (taken ++ tys_of f.operands) s.operands) _ h in
          let c = halves (all (sound_value rs) f.operands) _ a.1 in
          let g = halves (eqb (length f.holds) s.holds) _ c.1 in
          let k = halves (all sound_group f.holds) (typed_cells rs f.cells b.cells) g.1 in
          let t = typed-cells rs f.cells b.cells k.1 in
          let same : s ≡ shape (length f.holds) (taken ++ tys_of f.operands) = ap₂ shape (sym (eqb-true (length f.holds) s.holds g.0))
          (sym (sames→≡ (taken ++ tys_of f.operands) s.operands a.0)) in
          record {
            allowed = record { inside = i; found = e ∙ ap some same };
            operands = c.0;
            frame = record { groups = k.0; types = t.0 ∙ ap cells_of (sym d); values = t.1 };
          }

  stands-back : Passed m → (taken : List Ty) (f : Activation) → Stands m rs taken f → sound_activation m rs taken f ≡ true
  unfolding sound_activation
  stands-back w taken f s =
      let b = body-exists m w f.body f.address s.allowed.inside in
      both s.allowed.inside
      (rw (s.allowed.found, b.1)
      (both (sames-refl (taken ++ tys_of f.operands))
      (both s.operands
      (both (eq-eqb (length f.holds) (length f.holds) refl)
      (both s.frame.groups
      (typed-cells-back rs f.cells b.0.cells (s.frame.types ∙ ap cells_of b.1) s.frame.values))))))

  -- a call, on the code record and as an instruction
  calls : (o : Option Code) (k : ℕ) → calls_body o k ≡ true → keep o instruction ≡ some (call k)
  calls none k h = never h
  calls (some c) k h =
      let p = halves (eqb c.op 10) _ h in
      let q = halves (eqb c.a 0) (eqb c.b k) p.1 in
      op-10 c (eqb-true c.op 10 p.0) ∙ ap (λ (t : Bool). exactly t (call c.b)) q.0 ∙ ap (λ (z : ℕ). some (call z)) (eqb-true c.b k q.1)

  calls_back : Passed m → (i k : ℕ) → instr_at m i ≡ some (call k) → calls_body (get_elem? m.code i) k ≡ true
  calls_back w i k h =
      let q = call-record m w i k h in
      rw q.1 (both (eq-eqb q.0.op 10 q.2) (both (eq-eqb q.0.a 0 q.3) (eq-eqb q.0.b k q.4)))

  waiting : (k : ℕ) (fs : List Activation) → sound_waiting m rs k fs ≡ true → Waiting m rs k fs
  unfolding sound_waiting
  waiting k [] h = eqb-true k 0 h
  waiting k (f ∷ fs) h =
      let a = halves (calls_body (get_elem? m.code f.address) k) _ h in
      let b = halves (sound_activation m rs (on_stack (parameters_of (body_at m k))) f) (sound_waiting m rs f.body fs) a.1 in
      let st = stands (on_stack (parameters_of (body_at m k))) f b.0 in (
        record { calls = calls (get_elem? m.code f.address) k a.0; stands = st },
        waiting f.body fs b.1,
      )

  waiting-back : Passed m → (k : ℕ) (fs : List Activation) → Waiting m rs k fs → sound_waiting m rs k fs ≡ true
  unfolding sound_waiting
  waiting-back w k [] h = eq-eqb k 0 h
  waiting-back w k (f ∷ fs) h =
      both (calls_back w f.address k h.0.calls) (both (stands-back w (on_stack (parameters_of (body_at m k))) f h.0.stands) (waiting-back w f.body fs h.1))

pub running-sound : (m : Macro) (s : Shared) (f : Activation) (fs : List Activation) → sound m (running s f fs) ≡ true
    → Around m (record { shared = s; top = f; below = fs }) × Stands m s.records [] f
unfolding sound
running-sound m s f fs h =
    let rs = s.records in
    let a = halves (leb (length (f ∷ fs)) 32) _ h in
    let b = halves (leb (length rs) 256) _ a.1 in
    let c = halves (all (sound_record m rs) rs) _ b.1 in
    let d = halves (sound_activation m rs [] f) (sound_waiting m rs f.body fs) c.1 in
    let t = stands m rs [] f d.0 in (
      record {
        few = leb-true (length (f ∷ fs)) 32 a.0;
        few-records = leb-true (length rs) 256 b.0;
        made = c.0;
        frame = t.frame;
        below-waits = waiting m rs f.body fs d.1;
      },
      t,
    )

pub running-back : (m : Macro) → Passed m → (s : Shared) (f : Activation) (fs : List Activation)
    → Around m (record { shared = s; top = f; below = fs }) → Allowed m f.body f.address (shape (length f.holds) (tys_of f.operands))
    → all (sound_value s.records) f.operands ≡ true → sound m (running s f fs) ≡ true
unfolding sound
running-back m w s f fs r a o =
    let rs = s.records in
    both (le-leb (length (f ∷ fs)) 32 r.few)
    (both (le-leb (length rs) 256 r.few-records)
    (both r.made
    (both (stands-back m rs w [] f (record { allowed = a; operands = o; frame = r.frame })) (waiting-back m rs w f.body fs r.below-waits))))

-- ── the holds of a sound state: at most 512, of groups 0 to 63 ──
module _ (m : Macro) (w : Passed m) (sh : Shared) where
  abbrev rs : List Made
  rs = sh.records

  few-holds : (taken : List Ty) (f : Activation) → Stands m rs taken f → length f.holds ≤ 16
  few-holds taken f s = (limits m w f.body f.address (shape (length f.holds) (taken ++ tys_of f.operands)) s.allowed).0

  waiting-holds : (k : ℕ) (fs : List Activation) → Waiting m rs k fs → (length (all_holds fs) ≤ 16 * length fs) × (all sound_group (all_holds fs) ≡ true)
  unfolding all_holds all
  waiting-holds k [] h = (omega arith, refl)
  waiting-holds k (f ∷ fs) h =
      let r = waiting-holds f.body fs h.1 in (
        omega (arith, length-append f.holds (all_holds fs), few-holds (on_stack (parameters_of (body_at m k))) f h.0.stands, r.0),
        all_append sound_group f.holds (all_holds fs) h.0.stands.frame.groups r.1,
      )

  pub unwinds : (f : Activation) (fs : List Activation) (c : ℕ) → Stands m rs [] f → Around m (record { shared = sh; top = f; below = fs })
      → is_condition c ≡ true
      → sound m (unwinding (all_holds (f ∷ fs)) (end_by c)) ≡ true
  unfolding sound all_holds
  unwinds f fs c s r h =
      let q = waiting-holds f.body fs r.below-waits in
      both h (both (le-leb (length (f.holds ++ all_holds fs)) 512
      (omega (arith, length-append f.holds (all_holds fs), few-holds [] f s, q.0, r.few)))
      (all_append sound_group f.holds (all_holds fs) r.frame.groups q.1))

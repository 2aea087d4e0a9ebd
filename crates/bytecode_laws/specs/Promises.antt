-- What the loading check promises: the verdict, what a macro that reads is like, and what the states found in one that passes are.
-- The terms (WellFormed, Narrow, Passed, Allowed, Follows, Does, Finds) are in Terms; nothing else of this crate need be cited.
use Rattle.std.specs.Prelude.{◌≡◌, true, false, List, [], ◌↔◌, ◌⊎◌, ℕ, ◌≤◌, ◌<◌, length}
use Rattle.std.proofs.Common.{sym, ◌∙◌}
use Rattle.std.proofs.Math.Option.{some}
use Rattle.std.proofs.Math.ListN.{get_elem?}
use Rattle.words.specs.Laws.{Bytes}
use Rattle.values.specs.Ends.{Refusal, refusal, accepted, refused}
use Rattle.bytecode.specs.Macro.{Body, Code, Shape, shape, Macro, read_macro}
use Rattle.bytecode.specs.Instructions.{Instr, call, body_at, in_body, instr_at}
use Rattle.bytecode.specs.Rules.{body_of, effect, flow, fault_at, judge_macro}
use Rattle.bytecode_laws.specs.Terms.{WellFormed, Narrow, Passed, Allowed, Follows, Does, Finds}
use Rattle.bytecode_laws.specs.Judging.{accepts, refuses-9, refuses-8, refuses-only}
use Rattle.bytecode_laws.specs.Reading.{reads}
use Rattle.bytecode_laws.specs.Bodies.{inside-code, body-there, body_is, inside-body}
use Rattle.bytecode_laws.specs.Found.{cells-few, root-takes-nothing, found-everywhere, begins-empty, within-limits, follows, does}
use Rattle.bytecode_laws.specs.Ops.{finds, call-there}

-- ── the verdict on the bytes of a macro ──
-- it passes exactly where it reads and no address has a fault
pub passes-exactly : (l : List ℕ) (m : Macro)
    → judge_macro l ≡ accepted m ↔ ((read_macro l ≡ accepted m) × ((i : ℕ) → i < length m.code → fault_at m i ≡ false))
passes-exactly = accepts

-- 9 is at an address with a fault below which there is none
pub refused-by-9 : (l : List ℕ) (i : ℕ) → judge_macro l ≡ refused (refusal 9 i)
    ↔ ((m : Macro) × (read_macro l ≡ accepted m) × (i < length m.code) × (fault_at m i ≡ true) × ((j : ℕ) → j < i → fault_at m j ≡ false))
refused-by-9 = refuses-9

-- 8 is what reading gives
pub refused-by-8 : (l : List ℕ) (i : ℕ) → judge_macro l ≡ refused (refusal 8 i) ↔ (read_macro l ≡ refused (refusal 8 i))
refused-by-8 = refuses-8

-- there is no other refusal
pub refused-by-no-other : (l : List ℕ) (r : Refusal) → judge_macro l ≡ refused r → (r.number ≡ 8) ⊎ (r.number ≡ 9)
refused-by-no-other = refuses-only

-- ── a macro that reads, and one that passes ──
pub well-formed : (l : List ℕ) (m : Macro) → read_macro l ≡ accepted m → WellFormed m
well-formed l m h = (reads l m h).0

pub narrow : (l : List ℕ) (m : Macro) → Bytes l → read_macro l ≡ accepted m → Narrow m
narrow l m b h = (reads l m h).1 b

pub passed : (l : List ℕ) (m : Macro) → Bytes l → judge_macro l ≡ accepted m → Passed m
passed l m b h =
    let p = (passes-exactly l m).0 h in
    record { well-formed = well-formed l m p.0; narrow = narrow l m b p.0; faultless = p.1 }

-- ── of a macro that passes ──
module _ (m : Macro) (w : Passed m) where
  -- the bodies share the code out: every address stands in one, and only in that one
  pub in_code : (k i : ℕ) → in_body m k i ≡ true → i < length m.code
  in_code = inside-code m w.well-formed

  pub in-body : (i : ℕ) → i < length m.code → in_body m (body_of m.bodies 0 i) i ≡ true
  in-body = inside-body m w.well-formed

  pub body-known : (k i : ℕ) → in_body m k i ≡ true → body_of m.bodies 0 i ≡ k
  body-known = body_is m w.well-formed

  pub body-exists : (k i : ℕ) → in_body m k i ≡ true → (b : Body) × (body_at m k ≡ some b)
  body-exists = body-there m w.well-formed

  -- heads of bodies
  pub cells-at-most-32 : (k : ℕ) (b : Body) → body_at m k ≡ some b → length b.cells ≤ 32
  cells-at-most-32 = cells-few m w

  pub root-alone : (b : Body) → body_at m 0 ≡ some b → (b.parameters ≡ 0) × (b.results ≡ [])
  root-alone = root-takes-nothing m w

  -- every address of a body has exactly one state
  pub state-exists : (k i : ℕ) → in_body m k i ≡ true → (s : Shape) × Allowed m k i s
  state-exists = found-everywhere m w

  pub state-unique : (k i : ℕ) (s t : Shape) → Allowed m k i s → Allowed m k i t → s ≡ t
  state-unique k i s t a b = let e : some s ≡ some t = sym a.found ∙ b.found in cc

  -- a body begins with no holds and no operands
  pub entry : (k : ℕ) (b : Body) → body_at m k ≡ some b → Allowed m k b.first (shape 0 [])
  entry = begins-empty m w

  pub limits : (k i : ℕ) (s : Shape) → Allowed m k i s → (s.holds ≤ 16) × (length s.operands ≤ 32)
  limits = within-limits m w

  -- an op stands at every allowed address: where control goes from it, by its flow, by its effect, and by the op itself
  pub successors : (k i : ℕ) (s : Shape) → Allowed m k i s → (x : Instr) × (instr_at m i ≡ some x)
      × Follows m k i (flow (effect m k x s) s)
  successors = follows m w

  pub effects : (k i : ℕ) (s : Shape) → Allowed m k i s → (x : Instr) × (instr_at m i ≡ some x) × Does m k i s (effect m k x s)
  effects k i s a = let f = follows m w k i s a in (f.0, f.1, does m w k i s (effect m k f.0 s) f.2)

  pub ops : (k i : ℕ) (s : Shape) → Allowed m k i s → (x : Instr) × (instr_at m i ≡ some x) × Finds m k i s x
  ops = finds m w

  -- a call is op 10 with its body's number, on the code record too
  pub call-record : (i k : ℕ) → instr_at m i ≡ some (call k) → (c : Code) × (get_elem? m.code i ≡ some c) × (c.op ≡ 10) × (c.a ≡ 0) × (c.b ≡ k)
  call-record = call-there m w

-- What a step and a run stand on, and what they give: the plain machine's answer and the bytes of its state.
use Rattle.std.specs.Prelude.{◌≡◌, true, List, ℕ, ◌-◌, ◌<◌, length}
use Rattle.std.proofs.Math.Option.{some}
use Rattle.words.specs.Numbers.{byte_at}
use Rattle.values.specs.Ends.{accepted}
use Rattle.values.specs.Trace.{Item, readings_in}
use Rattle.values.specs.Values.{tys_of}
use Rattle.bytecode.specs.Macro.{Code, Macro, shape, read_macro}
use Rattle.bytecode.specs.Instructions.{Instr, instruction}
use Rattle.bytecode.specs.Machine.{Activation, Shared, Machine, moved, act, step}
use Rattle.bytecode.specs.Runs.{bank_of, happens, spends, finishes, refuses, halts, Ran, after, steps, run}
use Rattle.bytecode.specs.Runs as runs
use Rattle.bytecode.specs.Sound.{sound}
use Rattle.bytecode.specs.State.{encode}
use Rattle.bytecode_laws.specs.Terms.{Passed, Finds}
use Rattle.load_places.specs.Records.{code_base}
use Rattle.load_check.specs.Lookups.{Bodied, Classed}
use Rattle.machine_ops.specs.declared.Out.{Out}
use Rattle.machine_ops.specs.Acts.{here, Now, Told, event_of}
use Rattle.machine_run.specs.declared.Answer.{Answer}
use Rattle.machine_run.specs.declared.Answer.TheVariants.{Happens, Spends, Finishes}
use Rattle.machine_run.specs.declared.Run.{Run}

-- where the bodies, the classes and the first instruction stand in the macro
pub record Found (code bodies classes : List ℕ) (base : ℕ) : Type 0 where
  pub bodied : Bodied code bodies
  pub classed : Classed code classes
  pub based : base ≡ code_base code
  pub small : base < 65536

-- the macro passes, and the bytes hold a sound state of it
pub record Held (code l : List ℕ) : Type 0 where
  pub macro : Macro
  pub reads : read_macro code ≡ accepted macro
  pub passed : Passed macro
  pub state : Machine
  pub sounds : sound macro state ≡ true
  pub bytes : l ≡ encode state

-- ── an op ──
abbrev pub record_of : ℕ → ℕ → ℕ → Code
record_of op a b = record { op = op; a = a; b = b }

-- the op to be done next, and that it can be done
pub record Poised (code readings : List ℕ) (op a b : ℕ) (l : List ℕ) (f n i : ℕ) : Type 0 where
  pub macro : Macro
  pub reads : read_macro code ≡ accepted macro
  pub shared : Shared
  pub top : Activation
  pub below : List Activation
  pub at-hand : Now macro l f n i shared top below
  pub instr : Instr
  pub decoded : instruction (record_of op a b) ≡ some instr
  pub items : List Item
  pub next : Machine
  pub moves : act macro (bank_of readings) instr (here shared top below) ≡ moved items next
  pub still : sound macro next ≡ true
  pub finds : Finds macro top.body top.address (shape (length top.holds) (tys_of top.operands)) instr

-- what it does
abbrev pub Acts : List ℕ → List ℕ → ℕ → ℕ → ℕ → List ℕ → ℕ → ℕ → ℕ → List ℕ → Out → Type 0
Acts code readings op a b l f n i k o =
    (m : Macro) → read_macro code ≡ accepted m → (rs : Shared) (t : Activation) (fs : List Activation) → Now m l f n i rs t fs
    → (x : Instr) → instruction (record_of op a b) ≡ some x → Told (act m (bank_of readings) x (here rs t fs)) k o

-- ── a step ──
abbrev pub Steps : List ℕ → List ℕ → List ℕ → List ℕ → Out → Type 0
Steps code readings l k o =
    (m : Macro) → read_macro code ≡ accepted m → Passed m → (s : Machine) → sound m s ≡ true → l ≡ encode s → Told (step m (bank_of readings) s) k o

-- ── a run ──
-- the answer in the code's words; readings are 64 and a sound state has a next step, so there is no refusal and no halt
abbrev pub Answers : runs.Answer → Answer → Type 0
Answers (happens e n) a = a ≡ Happens (event_of e) n
Answers (spends n) a = a ≡ Spends n
Answers (finishes c n) a = a ≡ Finishes c n
Answers (refuses r) a = ⊥
Answers (halts why) a = ⊥

abbrev pub ran : Answer → ℕ → Run
ran a c = record { answer = a; readings = c }

pub record Ends (w : Ran) (k : List ℕ) (r : Run) : Type 0 where
  pub answer : Answers w.answer r.answer
  pub bytes : k ≡ encode w.state
  pub readings : r.readings ≡ readings_in w.trace

abbrev pub Runs : List ℕ → List ℕ → ℕ → List ℕ → List ℕ → Run → Type 0
Runs code readings allowance l k r =
    (m : Macro) → read_macro code ≡ accepted m → Passed m → (s : Machine) → sound m s ≡ true → l ≡ encode s → Ends (run m readings allowance s) k r

-- the bytes that a run began with, and how many readings it has taken since
pub record Since : Type 0 where
  pub first : List ℕ
  pub read : ℕ

abbrev pub since : List ℕ → ℕ → Since
since l c = record { first = l; read = c }

-- after i steps of k from the state s₀, with c readings, the bytes hold a sound state from which the run goes on
pub record Reached (readings l : List ℕ) (k i c : ℕ) (m : Macro) (s₀ : Machine) : Type 0 where
  pub state : Machine
  pub sounds : sound m state ≡ true
  pub bytes : l ≡ encode state
  pub before : List Item
  pub same : steps m (bank_of readings) k 0 s₀ ≡ after before (steps m (bank_of readings) (k - i) i state)
  pub counted : c ≡ readings_in before

abbrev pub Reaches : List ℕ → List ℕ → ℕ → Since → List ℕ → ℕ → Type 0
Reaches code readings k b l i =
    (m : Macro) → read_macro code ≡ accepted m → Passed m → (s : Machine) → sound m s ≡ true → b.first ≡ encode s → Reached readings l k i b.read m s

-- the rest of a run of k steps, after i of them, whatever it began with; it takes no reading more
abbrev pub RunsFrom : List ℕ → List ℕ → ℕ → ℕ → List ℕ → List ℕ → Answer → Type 0
RunsFrom code readings k i l l' a =
    (b : Since) → (byte_at b.first 0 ≡ 2 → ⊥) → Reaches code readings k b l i → Runs code readings k b.first l' (ran a b.read)

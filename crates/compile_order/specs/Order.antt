-- Every program of the subset is in order for the compiler, and so: no table that the check accepts compiles to a macro that the loading check turns down.
-- What they rest on stands in the other files, put together in Whole: Entries (fields and layout), Limited (limits), Classes (types of classes there are), Typed and Named (bodies).
use Rattle.std.specs.Prelude.{◌≡◌, List, ℕ, ◌≤◌, length}
use Rattle.std.proofs.Common.{subst}
use Rattle.language.specs.Program.{Program}
use Rattle.words.specs.Laws.{Bytes}
use Rattle.values.specs.Ends.{accepted}
use Rattle.language.specs.Tree.{Tree}
use Rattle.language.specs.Judge.{judge_table}
use Rattle.bytecode.specs.Rules.{judge_macro}
use Rattle.language_laws.proofs.Programs.{accepted-program}
use Rattle.compile_code.specs.Encode.{compiled, macro_of}
use Rattle.compile_simulation.specs.Top.{Built}
use Rattle.compile_records.specs.Writing.{Writable}
use Rattle.compile_macro.specs.Built.{InOrder, setting_of, accepted-macro, built, few-instructions, few-shapes, writable, macro-bytes}
use Rattle.compile_order.specs.Whole.{orderly}

pub in_order : (l : List ℕ) (P : Program l) → InOrder P.tree
in_order l P = orderly l P

module _ (l : List ℕ) (P : Program l) where
  -- a program's macro passes the loading check, which reads from its bytes what was compiled
  pub passes : judge_macro (macro_of P.tree) ≡ accepted (compiled P.tree)
  passes = accepted-macro P.tree (in_order l P)

  -- L12: at most 22 instructions an entry and a last one for each body, 22 × 2,048 + 64; no more SH than instructions. Both counts fit 16 bits.
  pub short : (length (compiled P.tree).code ≤ 45120) × (length (compiled P.tree).shapes ≤ 45120)
  short = (few-instructions P.tree (in_order l P), few-shapes P.tree (in_order l P))

  -- every number of the macro fits the field that it is written in, and what is written are bytes
  pub fits : Writable (compiled P.tree) × Bytes (macro_of P.tree)
  fits = (writable P.tree (in_order l P), macro-bytes P.tree (in_order l P))

  -- the macro has what the simulation asks of it, whatever the faders read
  pub simulated : (oracle : ℕ → ℕ → ℕ) → Built (setting_of P.tree oracle) P.tree
  simulated oracle = built P.tree (in_order l P) oracle

-- the same of tables: one that the check accepts
pub accepted-passes : (l : List ℕ) → Bytes l → (t : Tree) → judge_table l ≡ accepted t → judge_macro (macro_of t) ≡ accepted (compiled t)
accepted-passes l b t e = let q = accepted-program l b t e in subst (λ u. judge_macro (macro_of u) ≡ accepted (compiled u)) q.1 (passes l q.0)

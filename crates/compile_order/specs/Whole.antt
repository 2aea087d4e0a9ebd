-- A program's tree is in order: each thing that is asked of it, and what of the program gives it.
use Rattle.std.specs.Prelude.{List, ℕ}
use Rattle.std.proofs.Common.{arith}
use Rattle.language.specs.Program.{Program}
use Rattle.language.specs.Limits.{body_usage}
use Rattle.language.specs.Formed.{InLimits}
use Rattle.language_laws.specs.Trees.{formed-faultless}
use Rattle.compile_code.specs.Encode.{compiled}
use Rattle.compile_macro.specs.Built.{InOrder}
use Rattle.compile_code.specs.Counts.{length-procedures}
use Rattle.compile_order.specs.Entries.{few-classes, length-tree, root-entries, proc-entries, proc-results, class-fields}
use Rattle.compile_order.specs.Limited.{every-numbered}
use Rattle.compile_order.specs.Classes.{fields-known, parameters-known}
use Rattle.compile_order.specs.Typed.{root-typed, proc-typed}
use Rattle.compile_order.specs.Named.{root-named, proc-named, proc-static}

pub orderly : (l : List ℕ) (P : Program l) → InOrder P.tree
unfolding compiled
orderly l P =
    let t = P.tree in let h = formed-faultless t P.well-formed in
    record {
      root-typed = root-typed t h;
      root-named = root-named t h;
      root-keeps = P.keeps-limits.root;
      root-entries = root-entries t P.fields P.layout;
      procs = λ k q e. record {
        typed = proc-typed t h k q e;
        named = proc-named t h k q e;
        static = proc-static t h q;
        parameters-known = parameters-known t h k q e;
        results-known = proc-results t P.fields P.layout _ k q e;
        keeps = every-numbered (λ xs b. InLimits (body_usage xs b)) t.head P.keeps-limits.procedures k q e;
        entries = proc-entries t P.fields P.layout k q e;
      };
      fields-known = fields-known t h (class-fields t P.fields P.layout);
      few-classes = let n = few-classes t.head t.head in let m = P.classes in omega arith;
      few-procs = let n = length-procedures t.head in let m = P.procedures in omega arith;
      entries = let n = length-tree t in let m = P.entries in omega arith;
    }

-- Demand 2 for a macro that passes the loading check: tree and machine end alike and go on alike.
use Rattle.std.specs.Prelude.{true, false, ◌≡◌, List, [], reverse}
use Rattle.std.proofs.Common.{sym, ◌∙◌, arith}
use Rattle.std.proofs.Math.Path.{subst}
use Prim.Native.Nat.{ℕ, zero, suc, ◌<◌}
use Rattle.values.specs.Trace.{Item}
use Rattle.language.specs.Tree.{Tree}
use Rattle.language.specs.Execute.{finished, going, ill_formed, execute}
use Rattle.bytecode.specs.Machine.{fresh_machine}
use Rattle.bytecode.specs.Machine.{ended as stopped}
use Rattle.bytecode.specs.Sound.{sound}
use Rattle.bytecode_laws.specs.Terms.{Passed}
use Rattle.bytecode_safety.specs.Safety.{step-safe, fresh-safe}
use Rattle.compile_simulation.specs.Meets.{Conf, live, dead, stepped, Setting, Reach, run, Bad}
use Rattle.compile_simulation.specs.Meets.{go as go_conf}
use Rattle.compile_simulation.specs.Top.{Built, start, EndedAs, GoesOn, well-formed, ends_as, goes-on, tree-ends}

module _ (W : Setting) (passed : Passed W.macro) (bytes : (k n : ℕ) → W.oracle k n < 256) where
  abbrev Fine : Conf → Type 0
  Fine (live s tr k) = sound W.macro s ≡ true
  Fine dead = ⊥

  fine-go : (x : Conf) → Fine x → Fine (go_conf W x)
  unfolding go_conf
  fine-go (live s tr k) h =
      let q = step-safe W.macro passed (W.oracle k) (bytes k) s h in
      subst (λ z. Fine (stepped z tr k)) (sym q.2) q.3.still-sound
  fine-go dead h = h

  fine-run : (k : ℕ) (x : Conf) → Fine x → Fine (run W k x)
  unfolding run
  fine-run zero x h = h
  fine-run (suc k) x h = fine-run k (go_conf W x) (fine-go x h)

  not-bad : (x : Conf) → Fine x → Bad W x → ⊥
  not-bad (live s tr k) h b = let z : true ≡ false = sym h ∙ b in let y : ◌≡◌ {A = ℕ} 0 1 = cc z in omega arith
  not-bad dead h b = h

  safe : (k : ℕ) → Bad W (run W k (live (fresh_machine W.macro) [] 0)) → ⊥
  safe k = not-bad (run W k (live (fresh_machine W.macro) [] 0)) (fine-run k (live (fresh_machine W.macro) [] 0) (fresh-safe W.macro passed))

  module _ (t : Tree) (built : Built W t) where
    -- the tree's execution is never ill-formed
    pub sound-tree : (n : ℕ) → execute W.oracle t n ≡ ill_formed → ⊥
    sound-tree = well-formed W t built safe

    -- it ends: the machine ends so, with the same trace
    pub ends-alike : (n c : ℕ) (is : List Item) → execute W.oracle t n ≡ finished is c → Reach W (start W t) (EndedAs W t is c)
    ends-alike = ends_as W t built safe

    -- it is going on: the machine too, after more than n steps, with the same trace
    pub goes-alike : (n : ℕ) (is : List Item) → execute W.oracle t n ≡ going is → GoesOn W t (suc n) is
    goes-alike = goes-on W t built safe

    -- the machine ends: the tree ends so, with the same trace
    pub ended-alike : (k c : ℕ) (tr : List Item) (i : ℕ) → run W k (start W t) ≡ live (stopped c) tr i → execute W.oracle t k ≡ finished (reverse tr) c
    ended-alike = tree-ends W t built safe

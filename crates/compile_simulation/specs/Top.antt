-- What a user of the compiler reads: the machine ends as the tree ends, with the same trace, and goes on if the tree goes on; and back.
use Rattle.std.specs.Prelude.{◌≡◌, ◌⊎◌, length}
use Rattle.std.proofs.Math.Path.{refl, ap, subst}
use Rattle.std.proofs.Common.{sym, ◌∙◌, le_of_suc-le-suc, not-suc-le-zero, arith}
use mathlib.Core.List.{List, [], ◌∷◌, ◌++◌, reverse}
use Rattle.std.proofs.Math.Option.{some}
use Rattle.std.proofs.Math.Logic.{inl, inr}
use Prim.Native.Nat.{ℕ, zero, suc, ◌≤◌}
use Rattle.std.proofs.Math.Decide.{dec_le}
use Rattle.std.proofs.Math.ListN.{get_elem?}
use Rattle.values.specs.Types.{Ty}
use Rattle.values.specs.Values.{fresh_all}
use Rattle.values.specs.Trace.{Item}
use Rattle.language.specs.Tree.{Typed, Tree, locals}
use Rattle.language.specs.Names.{root_of}
use Rattle.language.specs.Execute.{Result, done, jump, later, wrong, Ran, finished, going, ill_formed, ran, execute, Procedure, procedure_in, class_in}
use Rattle.language.specs.Execute.{ended as over}
use Rattle.bytecode.specs.Instructions.{own, end}
use Rattle.bytecode.specs.Machine.{running, unwinding, fresh_machine, root_cells, fetch, act, step, do_end, all_holds, put_lowest}
use Rattle.bytecode.specs.Machine.{ended as stopped}
use Rattle.compile_code.specs.Code.{at, after}
use Rattle.compile_code.specs.Compile.{outermost, global, labels, held_in, code_head, code_items, class_number}
use Rattle.compile_simulation.specs.Meets.{Conf, live, dead, Setting, Reach, Meets, crash, ends, here, run, Bad, Live}
use Rattle.compile_simulation.specs.Meets.{go as go_conf, from as begin}
use Rattle.compile_simulation.specs.View.{Data, blocks_of, roots_of}
use Rattle.compile_simulation.specs.Ops.{op-at}
use Rattle.compile_simulation.specs.Placed.{Fit, Stands, at-work, Nothing, Arrives, lands}
use Rattle.compile_simulation.specs.Sim.{Called, OkItems}
use Rattle.compile_simulation.specs.Root.{OkRoot, at_root, Told, rooted}

module _ (W : Setting) (t : Tree) where
  abbrev pub last_at : ℕ
  last_at =
      (after (code_head t.head (global own) (locals t.head) (outermost (root_of t) ∷ []) (at 0 0)
      (λ Δ q. code_items t.head t.items (labels t.items q.address ∷ Δ) [] q)) (at 0 0)).address

  -- what the compiled macro has to offer
  pub record Built : Type 0 where
    pub table : (a : ℕ) (q : Procedure) → procedure_in a t.head ≡ some q → Called W t.head a q
    pub classes : (c : ℕ) (xs : List Typed) → class_in c t.head ≡ some xs → (ts : List Ty) × (get_elem? W.macro.classes (class_number t.head c) ≡ some ts) × (length ts ≡ length xs)
    pub good : OkRoot t.head (locals t.head) (outermost (root_of t) ∷ []) 0 (λ Δ n. Fit W t.head (at_root W t.head) Δ n × ((x : ℕ) → OkItems t.head t.items (labels t.items x ∷ Δ)))
    pub stand : Stands W 0 (code_head t.head (global own) (locals t.head) (outermost (root_of t) ∷ []) (at 0 0)
        (λ Δ q. code_items t.head t.items (labels t.items q.address ∷ Δ) [] q)) (at 0 0)
    pub last : fetch W.macro 0 last_at ≡ some end

  abbrev pub start : Conf
  start = live (fresh_machine W.macro) [] 0

  abbrev pub EndedAs : List Item → ℕ → Conf → Type 0
  EndedAs is c y = (tr : List Item) × (k : ℕ) × (y ≡ live (stopped c) tr k) × (reverse tr ≡ is)

  abbrev pub Running : List Item → Conf → Type 0
  Running is (live (running rs f fs) tr k) = reverse tr ≡ is
  Running is (live (unwinding gs a) tr k) = ⊥
  Running is (live (stopped c) tr k) = ⊥
  Running is dead = ⊥

  pub record GoesOn (n : ℕ) (is : List Item) : Type 0 where
    pub steps : ℕ
    pub many : n ≤ steps
    pub alive : Running is (run W steps start)

  abbrev pub Does : ℕ → Ran → Type 0
  Does n (finished is c) = Reach W start (EndedAs is c)
  Does n (going is) = GoesOn n is
  Does n ill_formed = Reach W start (Bad W)

  module _ (B : Built) where
    abbrev D₀ : Data
    D₀ = record { shared = record { records = [] }; cells = fresh_all (root_cells W.macro.bodies); lowest = []; trace = []; taken = 0 }

    -- the root's last op
    closes : (n : ℕ) (r : Result (Unit {0})) → Meets W n (lands W t.head (at_root W t.head) (outermost (root_of t) ∷ []) [])
        (Arrives W t.head (at_root W t.head) (Nothing W t.head (at_root W t.head)) (Told W t.head) [] last_at []) start r
        → Reach W start (Bad W) ⊎ Does n (ran r)
    unfolding ran lands act do_end put_lowest
    closes n r (crash h) = inl h
    closes n (done u σ) (ends h) = finishes (begin h (λ y m.
        subst (λ z. Meets W n (λ a τ y. ⊥) (λ v τ y. EndedAs (reverse σ.trace) 0 y) z (done u σ))
        (sym (m.there ∙ ap (λ us. at-work W t.head (at_root W t.head) last_at (us ++ []) [] m.now) m.gave))
        (op-at W t.head 0 [] end last_at [] [] m.now B.last (ends (here (m.now.trace, m.now.taken, refl, ap reverse m.sees.0))))))
      where
        finishes : Meets W n (λ a τ y. ⊥) (λ v τ y. EndedAs (reverse σ.trace) 0 y) start (done u σ) → Reach W start (Bad W) ⊎ Reach W start (EndedAs (reverse σ.trace) 0)
        finishes (crash h) = inl h
        finishes (ends h) = inr h
    closes n (jump a σ) (ends h) = absurd h.there
    closes n (over c σ) (ends h) = inr (record { steps = h.steps; there = (σ.trace, σ.taken, h.there, refl) })
    closes n (later σ) (ends h) = inr (record { steps = h.steps; many = h.many; alive = alive (run W h.steps start) h.alive })
      where
        alive : (y : Conf) → Live W y σ → Running (reverse σ.trace) y
        alive (live (running rs f fs) tr k) e = ap reverse e.0
        alive (live (unwinding gs a) tr k) e = e
        alive (live (stopped c) tr k) e = e
        alive dead e = e
    closes n wrong (ends h) = inl h

    pub does : (n : ℕ) → Reach W start (Bad W) ⊎ Does (suc n) (execute W.oracle t n)
    unfolding execute fresh_machine held_in blocks_of roots_of all_holds put_lowest
    does n = closes (suc n) _ (rooted W t.head B.table B.classes n (locals t.head) (root_of t) t.items D₀ B.good B.stand)

    -- ── a machine that is never bad: of a macro that passes the loading check (safety) ──
    module _ (safe : (k : ℕ) → Bad W (run W k start) → ⊥) where
      so : (n : ℕ) → Does (suc n) (execute W.oracle t n)
      so n = pick (does n)
        where
          pick : Reach W start (Bad W) ⊎ Does (suc n) (execute W.oracle t n) → Does (suc n) (execute W.oracle t n)
          pick (inl h) = absurd (safe h.steps h.there)
          pick (inr h) = h

      -- no program of the subset is ill-formed
      pub well-formed : (n : ℕ) → execute W.oracle t n ≡ ill_formed → ⊥
      well-formed n e = let h : Reach W start (Bad W) = subst (Does (suc n)) e (so n) in safe h.steps h.there

      -- the tree ends: so does the machine, with the same trace
      pub ends_as : (n c : ℕ) (is : List Item) → execute W.oracle t n ≡ finished is c → Reach W start (EndedAs is c)
      ends_as n c is e = subst (Does (suc n)) e (so n)

      -- the tree is going on with fuel n: the machine, after more than n steps, with the same trace
      pub goes-on : (n : ℕ) (is : List Item) → execute W.oracle t n ≡ going is → GoesOn (suc n) is
      goes-on n is e = subst (Does (suc n)) e (so n)

      stays : (k c : ℕ) (tr : List Item) (j : ℕ) → run W k (live (stopped c) tr j) ≡ live (stopped c) tr j
      unfolding run go_conf step
      stays zero c tr j = refl
      stays (suc k) c tr j = stays k c tr j

      later-on : (k j : ℕ) (x : Conf) (c : ℕ) (tr : List Item) (i : ℕ) → k ≤ j → run W k x ≡ live (stopped c) tr i → run W j x ≡ live (stopped c) tr i
      unfolding run
      later-on zero j x c tr i h p = rw p (stays j c tr i)
      later-on (suc k) zero x c tr i h p = absurd (not-suc-le-zero h)
      later-on (suc k) (suc j) x c tr i h p = later-on k j (go_conf W x) c tr i (le_of_suc-le-suc h) p

      abbrev end_of : Conf → Ran
      end_of (live (running rs f fs) tr k) = going (reverse tr)
      end_of (live (unwinding gs a) tr k) = going (reverse tr)
      end_of (live (stopped c) tr k) = finished (reverse tr) c
      end_of dead = ill_formed

      one_end : (k j : ℕ) (x : Conf) (c d : ℕ) (tr ur : List Item) (i l : ℕ) → run W k x ≡ live (stopped c) tr i → run W j x ≡ live (stopped d) ur l → finished (reverse tr) c ≡ finished (reverse ur) d
      one_end k j x c d tr ur i l p q = pick (dec_le k j)
        where
          pick : Dec (k ≤ j) → finished (reverse tr) c ≡ finished (reverse ur) d
          pick (yes h) = ap end_of (sym (later-on k j x c tr i h p) ∙ q)
          pick (no h) = ap end_of (sym p ∙ later-on j k x d ur l (omega arith) q)

      -- the machine ends after k steps: so does the tree with fuel k, with the same trace
      matches : (k c : ℕ) (tr : List Item) (i : ℕ) (r : Ran) → Does (suc k) r → run W k start ≡ live (stopped c) tr i → r ≡ finished (reverse tr) c
      matches k c tr i (finished is d) h p = ap (λ z. finished z d) (sym h.there.3) ∙ one_end h.steps k start d c h.there.0 tr h.there.1 i h.there.2 p
      matches k c tr i (going is) h p = absurd (subst (Running is) (later-on k h.steps start c tr i (let q = h.many in omega arith) p) h.alive)
      matches k c tr i ill_formed h p = absurd (safe h.steps h.there)

      pub tree-ends : (k c : ℕ) (tr : List Item) (i : ℕ) → run W k start ≡ live (stopped c) tr i → execute W.oracle t k ≡ finished (reverse tr) c
      tree-ends k c tr i p = matches k c tr i (execute W.oracle t k) (so k) p

-- Where the code of each entry of a tree ends: what a walk over all bodies leaves by entry, and that the next walk finds all of it there.
use Rattle.std.specs.Prelude.{◌≡◌, ℕ, suc, ◌+◌, ◌≤◌, get_or, set}
use Rattle.std.proofs.Common.{◌∙◌, arith, length-append, length-set, get_or-set_same}
use mathlib.Core.List.{List, [], ◌∷◌}
use Rattle.std.proofs.Math.ListN.{length}
use Rattle.std.proofs.lemmas.List.Edits.{sets}
use Rattle.std.proofs.Math.Seq.{length-sets}
use Rattle.language.specs.Program.{flat_items, flat_global, flat_head}
use Rattle.language.specs.Tree.{Typed, Body, proper, function, Global, local, class, procedure, Tree}
use Rattle.language.specs.Faults.{size_body, size_global}
use Rattle.table_scopes.specs.Trees.{length-Global, length-Items}
use Rattle.compile_code.specs.Code.{At, at, after}
use Rattle.compile_code.specs.Compile.{Around, Proc}
use Rattle.compile_code.specs.Encode.{around_body, code_root, code_proc}
use Rattle.compile_nodes.specs.Ends.{ends_s, ends_e, ends_items}
use Rattle.compile_nodes.specs.Knows.{Lies}
use Rattle.compile_scopes.specs.Lengths.{length-items, length-below, length-below_e}
use Rattle.compile_scopes.specs.Sight.{after_head, start_of_items, around_root}
use Rattle.compile_whole.specs.Apart.{Apart, apart-self, apart-then, apart-wider, apart-set, apart-sets, lies-before, lies-behind, lies-sets}

-- ── the root ──
abbrev pub items_ends : Tree → List ℕ
items_ends t = ends_items t.head t.items (around_root t) [] (start_of_items t)

abbrev pub root_end : Tree → ℕ
root_end t = (after (code_root t) (at 0 0)).address

-- ── a procedure whose code begins at an address ──
abbrev pub proc_of : ℕ → List Typed → Body → Proc
proc_of a xs b = record { name = a; parameters = xs; body = b }

abbrev pub ends_body : List Global → Body → List Around → At → List ℕ
ends_body gs (proper s) Γ p = ends_s gs s Γ [] p
ends_body gs (function u e) Γ p = ends_e gs e Γ [] p

abbrev pub proc_ends : Tree → Proc → ℕ → List ℕ
proc_ends t q a = ends_body t.head q.body (around_body t q.parameters) (at a (length q.parameters))

abbrev pub proc_end : Tree → Proc → ℕ → ℕ
proc_end t q a = (after (code_proc t q a) (at a 0)).address

-- ── what a walk leaves ──
abbrev pub ended_root : Tree → List ℕ → List ℕ
ended_root t l = set (sets l (after_head t) (items_ends t)) 0 (root_end t)

-- of the declaration at a place, a procedure, whose code begins at an address
abbrev pub ended_proc : Tree → Proc → ℕ → ℕ → List ℕ → List ℕ
ended_proc t q p a l = set (sets l (p + 1 + length q.parameters) (proc_ends t q a)) p (proc_end t q a)

unfoldable pub ended_procs : Tree → List Global → ℕ → ℕ → List ℕ → List ℕ
ended_procs t [] p a l = l
ended_procs t (local d ∷ gs) p a l = ended_procs t gs (p + size_global (local d)) a l
ended_procs t (class c xs ∷ gs) p a l = ended_procs t gs (p + size_global (class c xs)) a l
ended_procs t (procedure n xs b ∷ gs) p a l =
    let q = proc_of n xs b in
    ended_procs t gs (p + size_global (procedure n xs b)) (proc_end t q a) (ended_proc t q p a l)

abbrev pub ended : Tree → List ℕ → List ℕ
ended t l = ended_procs t t.head 1 (root_end t) (ended_root t l)

-- ── what the next walk finds ──
unfoldable pub AimsProcs : Tree → List ℕ → List Global → ℕ → ℕ → Type 0
AimsProcs t l [] p a = Unit {0}
AimsProcs t l (local d ∷ gs) p a = AimsProcs t l gs (p + size_global (local d)) a
AimsProcs t l (class c xs ∷ gs) p a = AimsProcs t l gs (p + size_global (class c xs)) a
AimsProcs t l (procedure n xs b ∷ gs) p a =
    let q = proc_of n xs b in
    (get_or l p 0 ≡ proc_end t q a) × Lies l (p + 1 + length xs) (proc_ends t q a) × AimsProcs t l gs (p + size_global (procedure n xs b)) (proc_end t q a)

pub record Aims (t : Tree) (l : List ℕ) : Type 0 where
  pub of-root : get_or l 0 0 ≡ root_end t
  pub of-items : Lies l (after_head t) (items_ends t)
  pub of-procs : AimsProcs t l t.head 1 (root_end t)

-- ── the one gives the other ──
length-body : (gs : List Global) (b : Body) (Γ : List Around) (p : At) → length (ends_body gs b Γ p) ≡ size_body b
length-body gs (proper s) Γ p = length-below gs s Γ [] p
length-body gs (function u e) Γ p = length-below_e gs e Γ [] p

heads-length : (g : Global) (gs : List Global) → length (flat_head (g ∷ gs)) ≡ size_global g + length (flat_head gs)
unfolding flat_head
heads-length g gs = omega (arith, length-append (flat_global g) (flat_head gs), length-Global g)

module _ (t : Tree) where
  proc-apart : (q : Proc) (p a : ℕ) (l : List ℕ) → Apart l (ended_proc t q p a l) p (p + suc (length q.parameters + size_body q.body))
  proc-apart q p a l =
      let n = length-body t.head q.body (around_body t q.parameters) (at a (length q.parameters)) in
      let s = p + suc (length q.parameters + size_body q.body) in
      let k = p + 1 + length q.parameters in
      apart-then (apart-wider p s (omega arith) (omega arith) (apart-sets l k (proc_ends t q a)))
      (apart-wider p s (omega arith) (omega arith) (apart-set (sets l k (proc_ends t q a)) p (proc_end t q a)))

  pub procs-apart : (gs : List Global) (p a : ℕ) (l : List ℕ) → Apart l (ended_procs t gs p a l) p (p + length (flat_head gs))
  unfolding ended_procs
  procs-apart [] p a l = apart-self l p _
  procs-apart (local d ∷ gs) p a l =
      let n = heads-length (local d) gs in
      apart-wider p (p + length (flat_head (local d ∷ gs))) (omega arith) (omega arith) (procs-apart gs (p + size_global (local d)) a l)
  procs-apart (class c xs ∷ gs) p a l =
      let n = heads-length (class c xs) gs in
      apart-wider p (p + length (flat_head (class c xs ∷ gs))) (omega arith) (omega arith) (procs-apart gs (p + size_global (class c xs)) a l)
  procs-apart (procedure m xs b ∷ gs) p a l =
      let g = procedure m xs b in let q = proc_of m xs b in
      let n = heads-length g gs in let s = p + length (flat_head (g ∷ gs)) in
      apart-then (apart-wider p s (omega arith) (omega arith) (proc-apart q p a l))
      (apart-wider p s (omega arith) (omega arith) (procs-apart gs (p + size_global g) (proc_end t q a) (ended_proc t q p a l)))

  proc-aims : (q : Proc) (p a : ℕ) (l : List ℕ) → p + suc (length q.parameters + size_body q.body) ≤ length l
      → (get_or (ended_proc t q p a l) p 0 ≡ proc_end t q a) × Lies (ended_proc t q p a l) (p + 1 + length q.parameters) (proc_ends t q a)
  proc-aims q p a l h =
      let n = length-body t.head q.body (around_body t q.parameters) (at a (length q.parameters)) in
      let k = p + 1 + length q.parameters in
      let m = sets l k (proc_ends t q a) in (
        get_or-set_same m p (proc_end t q a) 0 (omega (arith, length-sets l k (proc_ends t q a))),
        lies-behind (apart-set m p (proc_end t q a)) (proc_ends t q a) (omega arith) (lies-sets l k (proc_ends t q a) (omega arith)),
      )

  pub procs-aims : (gs : List Global) (p a : ℕ) (l : List ℕ) → p + length (flat_head gs) ≤ length l → AimsProcs t (ended_procs t gs p a l) gs p a
  unfolding ended_procs AimsProcs
  procs-aims [] p a l h = tt
  procs-aims (local d ∷ gs) p a l h = let n = heads-length (local d) gs in procs-aims gs (p + size_global (local d)) a l (omega arith)
  procs-aims (class c xs ∷ gs) p a l h = let n = heads-length (class c xs) gs in procs-aims gs (p + size_global (class c xs)) a l (omega arith)
  procs-aims (procedure m xs b ∷ gs) p a l h =
      let g = procedure m xs b in let q = proc_of m xs b in
      let n = heads-length g gs in
      let z = proc_end t q a in
      let e = ended_proc t q p a l in
      let x = proc-aims q p a l (omega arith) in
      let y = procs-apart gs (p + size_global g) z e in
      let s = length-body t.head b (around_body t xs) (at a (length xs)) in (
        y.before p (omega arith) ∙ x.0,
        lies-before y (proc_ends t q a) (omega arith) x.1,
        procs-aims gs (p + size_global g) z e (omega (arith, (proc-apart q p a l).same_length)),
      )

  -- an array with a number for each entry holds all ends after a walk
  pub aims : (l : List ℕ) → after_head t + length (flat_items t.items) ≤ length l → Aims t (ended t l)
  aims l h =
      let n = length-items t.head t.items (around_root t) [] (start_of_items t) in
      let m = length-Items t.items in
      let s = sets l (after_head t) (items_ends t) in
      let e = ended_root t l in
      let k : length e ≡ length l = length-set s 0 (root_end t) ∙ length-sets l (after_head t) (items_ends t) in
      let y = procs-apart t.head 1 (root_end t) e in
      record {
        of-root = y.before 0 (omega arith) ∙ get_or-set_same s 0 (root_end t) 0 (omega (arith, length-sets l (after_head t) (items_ends t)));
        of-items = lies-behind y (items_ends t) (omega arith) (lies-behind (apart-set s 0 (root_end t)) (items_ends t) (omega arith) (lies-sets l (after_head t) (items_ends t) (omega arith)));
        of-procs = procs-aims t.head 1 (root_end t) e (omega arith);
      }

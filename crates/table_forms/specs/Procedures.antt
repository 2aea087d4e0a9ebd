-- A procedure, all declarations, and the whole table.
use Rattle.std.specs.Prelude.{◌≡◌, refl, List, [], ◌∷◌, ◌++◌, map, ℕ, suc, ◌+◌, ◌*◌, ◌/◌, ◌%◌, ◌≤◌, length, Ok, Err}
use Rattle.std.proofs.Common.{ap, sym, ◌∙◌, append-nil, arith, add_assoc, add-one}
use Rattle.language.specs.Program.{flat_typed, flat_decl, result_code, flat_body, flat_global, deep_body}
use Rattle.words.specs.Numbers.{half_at, word_at}
use Rattle.language.specs.Tree.{Typed, declare, Body, Global, local, class, procedure}
use Rattle.language.specs.Names.{Scope, defines_typed, procedure_of}
use Rattle.language.specs.Faults.{twice, mistyped_unless, faults_head, faults_body, body_fits, faults_global}
use Rattle.language_laws.specs.Claims.{entries_of}
use Rattle.table_entries.specs.declared.Fault.{Fault}
use Rattle.table_scopes.specs.Environment.{item, env_of, add_all, shut, Grown}
use Rattle.table_scopes.specs.EnvironmentLaws.{Small, fewer}
use Rattle.table_entries.specs.Stands.{Stands, stands-left, stands-right, stands-tail}
use Rattle.table_scopes.specs.Items.{items_at}
use Rattle.table_scopes.specs.Flaws.{Verdict, Says, says_first, says_then, once_flaw, head_flaws}
use Rattle.table_scopes.specs.Trees.{length-map, typed-decls, length-Body, Heads}
use Rattle.table_scopes.specs.Sees.{Sees, sees-procedure}
use Rattle.table_scopes.specs.Once.{Rising}
use Rattle.table_scopes.proofs.OnceBlocks.{once-block}
use Rattle.table_scopes.specs.Defines.{head_items, head-items, items-small, length-heads, typed-matches, head-rising, OnceHead, once-head, head-faults}
use Rattle.table_forms.specs.Walk.{Table}
use Rattle.table_forms.specs.Part.{head_of, table-next, below}
use Rattle.table_forms.specs.Globals.{heads-here}
use Rattle.table_forms.specs.Root.{OnceGlobal, typed-faults, ReadyBody, AsksBody, AnswersBody, result_flaw, body-result, ReadyGlobal, AsksGlobal, AnswersGlobal, IsProcedure, global-head}

none-rising : (n : ℕ) → Rising n []
unfolding Rising
none-rising n = tt

-- ── a procedure ──
pub record Proc (g : Global) (ss : List Scope) (seen l part : List ℕ) (heading at : ℕ) (sizes env : List ℕ) (top : ℕ) : Type 0 where
  pub name : ℕ
  pub list : List Typed
  pub body : Body
  pub table : Table l part sizes at
  pub named : half_at part 2 ≡ name
  pub many : heading / 256 ≡ length list
  pub result : heading % 256 ≡ result_code body
  pub params : Stands (entries_of l) (at + 1) (map flat_decl (map declare list))
  pub last : Stands (entries_of l) (at + 1 + heading / 256) (flat_body body)
  pub deep : deep_body body ≤ 62
  pub room : 4 * (top + (1 + (length list + length (flat_body body)))) ≤ length env
  pub fits : 8 * (at + 1 + heading / 256) ≤ length l
  pub sees : Sees l (env_of env top) ss
  pub once : once_flaw (env_of env top) name at ≡ twice name seen at
  pub faults : faults_global ss seen at g
      ≡ faults_head (procedure_of list ∷ ss) [] (at + 1) (map declare list)
      ++ (faults_body (procedure_of list ∷ ss) (at + 1 + heading / 256) body ++ (twice name seen at ++ mistyped_unless (body_fits (procedure_of list ∷ ss) body) at))

pub procedure-of : (g : Global) → IsProcedure g → {ss : List Scope} {seen l part : List ℕ} {at : ℕ} {sizes env : List ℕ} {top : ℕ} (heading : ℕ)
    → heading ≡ word_at part 4 → ReadyGlobal g ss seen l part at sizes env top
    → Proc g ss seen l part heading at sizes env top
unfolding flat_global OnceGlobal Heads
procedure-of (local d) h heading e q = absurd h
procedure-of (class c xs) h heading e q = absurd h
procedure-of (procedure a xs b) h {ss} {seen} {l} {part} {at} heading e q =
    let d = head_of _ _ q.table q.stands in
    let k = heads-here q.table.legible (procedure a xs b) q.stands in
    let n : heading ≡ 256 * length xs + result_code b = e ∙ d.b (256 * length xs + result_code b) refl in
    let m : heading / 256 ≡ length xs = omega arith in
    let w = stands-tail _ _ q.stands in
    record {
      name = a;
      list = xs;
      body = b;
      table = q.table;
      named = d.a;
      many = m;
      result = omega arith;
      params = rw (typed-decls xs) at (stands-left (map flat_typed xs) (flat_body b) w);
      last = rw m (rw (length-map flat_typed xs) at (stands-right (map flat_typed xs) (flat_body b) w));
      deep = omega (arith, q.deep);
      room = omega (arith, q.room, length-Body b);
      fits = omega (arith, (global-head (procedure a xs b) q).fits);
      sees = q.sees;
      once = q.once;
      faults = rw (m, add-one at, typed-faults (procedure_of xs ∷ ss) [] (suc at) xs);
    }

abbrev pub Walled : List ℕ → ℕ → ℕ → ℕ → List ℕ → List ℕ → ℕ → Type 0
Walled l at n top env mid up = Grown top env mid up (add_all (items_at 4 l (at + 1) n) (item shut 0 0 0 ∷ env_of env top)) (1 + length (items_at 4 l (at + 1) n))

module _ {g : Global} {ss : List Scope} {seen l part : List ℕ} {heading at : ℕ} {sizes env : List ℕ} {top : ℕ} (p : Proc g ss seen l part heading at sizes env top) where
  items-are : items_at 4 l (at + 1) (heading / 256) ≡ head_items 4 (at + 1) (map declare p.list)
  items-are = ap (items_at 4 l (at + 1)) (p.many ∙ sym (length-map declare p.list)) ∙ head-items p.table.legible 4 (at + 1) (map declare p.list) p.params

  pub params-most : length (items_at 4 l (at + 1) (heading / 256)) ≤ length p.list
  params-most = omega (arith, ap length items-are, length-heads 4 (at + 1) (map declare p.list), length-map declare p.list)

  params_small : Small (head_items 4 (at + 1) (map declare p.list))
  params_small = rw items-are at (items-small p.table.legible 4 (at + 1) (heading / 256))

  module _ {mid : List ℕ} {up : ℕ} (w : Walled l at (heading / 256) top env mid up) where
    now-is : env_of mid up ≡ add_all (head_items 4 (at + 1) (map declare p.list)) (item shut 0 0 0 ∷ env_of env top)
    now-is = w.now ∙ rw items-are

    pub inner-sees : Sees l (env_of mid up) (procedure_of p.list ∷ ss)
    inner-sees = rw now-is (sees-procedure p.sees (head_items 4 (at + 1) (map declare p.list)) (defines_typed p.list) (typed-matches l (at + 1) p.list) params_small)

    inner-once : OnceHead (env_of mid up) [] (at + 1) (map declare p.list)
    inner-once = let is = head_items 4 (at + 1) (map declare p.list) in
        (once-head (env_of mid up) [] 4 (at + 1) (map declare p.list) []
        (rw append-nil (rw now-is (once-block shut is (env_of env top) (at + 1) (omega arith) params_small
        (rw append-nil at (head-rising 4 (at + 1) (map declare p.list) [] (none-rising (at + 1 + length (map declare p.list))))))))).0

    pub params-faults : head_flaws l (env_of mid up) (at + 1) (heading / 256) ≡ faults_head (procedure_of p.list ∷ ss) [] (at + 1) (map declare p.list)
    params-faults =
        ap (head_flaws l (env_of mid up) (at + 1)) (p.many ∙ sym (length-map declare p.list))
        ∙ head-faults p.table.legible inner-sees (at + 1) (map declare p.list) [] p.params inner-once

    pub ready-body : ReadyBody p.body (procedure_of p.list ∷ ss) l (below part (8 * (1 + heading / 256))) (heading % 256) (at + 1 + heading / 256) sizes mid up
    ready-body =
        record {
          table = rw (add_assoc at 1 (heading / 256)) (table-next p.table (8 * (1 + heading / 256)) (1 + heading / 256) refl);
          stands = p.last;
          deep = p.deep;
          room = omega (arith, p.room, w.most, w.same, params-most);
          sees = inner-sees;
          code = p.result;
        }

    pub walled-room : 4 * up ≤ length mid
    walled-room = omega (arith, p.room, w.most, w.same, params-most)

pub record ProcAsks (l part : List ℕ) (heading at : ℕ) (env : List ℕ) (top : ℕ) : Type 0 where
  pub long : 8 ≤ length part
  pub small : at + 1 + heading / 256 ≤ 2048
  pub fits : 8 * (1 + heading / 256) ≤ length part
  pub within : 8 * (at + 1 + heading / 256) ≤ length l
  pub short : length l ≤ 16384
  pub room : 4 * (top + 1 + length (items_at 4 l (at + 1) (heading / 256))) ≤ length env

module _ {l part : List ℕ} {at : ℕ} {sizes old : List ℕ} {top : ℕ} (heading : ℕ) (c : heading ≡ word_at part 4) where
  pub proc-asks : AsksGlobal IsProcedure l part at sizes old top → ProcAsks l part heading at old top
  proc-asks q =
      let p = procedure-of q.global q.holds heading c q.ready in
      let h = global-head q.global q.ready in
      record {
        long = h.long;
        small = omega (arith, p.fits, p.table.legible.short);
        fits = omega (arith, p.fits, h.whole);
        within = p.fits;
        short = p.table.legible.short;
        room = omega (arith, p.room, params-most p);
      }

  module _ {mid : List ℕ} {up : ℕ} (w : Walled l at (heading / 256) top old mid up) where
    pub proc-top : AsksGlobal IsProcedure l part at sizes old top → 4 * up ≤ length mid
    proc-top q = walled-room (procedure-of q.global q.holds heading c q.ready) w

    pub proc-body : AsksGlobal IsProcedure l part at sizes old top → AsksBody l (below part (8 * (1 + heading / 256))) (heading % 256) (at + 1 + heading / 256) sizes mid up
    proc-body q = let p = procedure-of q.global q.holds heading c q.ready in record { body = p.body; scopes = procedure_of p.list ∷ q.scopes; ready = ready-body p w }

    module _ {r : Verdict} (y : Says r (head_flaws l (env_of mid up) (at + 1) (heading / 256))) where
      pub proc-stop : (bad : Fault) → r ≡ Err bad → AnswersGlobal IsProcedure l part at sizes old mid top (Err bad)
      proc-stop bad e =
          record {
            kept = w.kept;
            same = w.same;
            judged = λ g ss seen h q.
                let p = procedure-of g h heading c q in rw p.faults (says_first r bad _ _ e (rw (params-faults p w) at y));
          }

      module _ (t : ℕ) (e : r ≡ Ok t) {new : List ℕ} {s : Verdict} (z : AnswersBody l (below part (8 * (1 + heading / 256))) (heading % 256) (at + 1 + heading / 256) sizes mid new up s) where
        pub proc-stop-2 : (bad : Fault) → s ≡ Err bad → AnswersGlobal IsProcedure l part at sizes old new top (Err bad)
        proc-stop-2 bad x =
            record {
              kept = fewer new mid top up w.least z.kept ∙ w.kept;
              same = z.same ∙ w.same;
              judged = λ g ss seen h q.
                  let p = procedure-of g h heading c q in
                  rw p.faults (says_then r (Err bad) t _ _ e (rw (params-faults p w) at y) (says_first s bad _ _ x (z.judged p.body (procedure_of p.list ∷ ss) (ready-body p w)).says));
            }

        pub proc-judged : (u : ℕ) {v : Verdict} → s ≡ Ok u → Says v (once_flaw (env_of new top) (half_at part 2) at ++ result_flaw heading u at) → AnswersGlobal IsProcedure l part at sizes old new top v
        proc-judged u {v} x k =
            record { kept = fewer new mid top up w.least z.kept ∙ w.kept; same = z.same ∙ w.same; judged = λ g ss seen h q. go g ss seen h q (procedure-of g h heading c q) }
          where
            go : (g : Global) (ss : List Scope) (seen : List ℕ) → IsProcedure g → ReadyGlobal g ss seen l part at sizes old top
                → Proc g ss seen l part heading at sizes old top → Says v (faults_global ss seen at g)
            go g ss seen h q p =
                let b = z.judged p.body (procedure_of p.list ∷ ss) (ready-body p w) in
                let d : Says v (twice p.name seen at ++ mistyped_unless (body_fits (procedure_of p.list ∷ ss) p.body) at)
                = rw (fewer new mid top up w.least z.kept ∙ w.kept, p.named, p.once, body-result heading at p.body (procedure_of p.list ∷ ss) s u p.result x b.types) at k in
                rw p.faults (says_then r v t _ _ e (rw (params-faults p w) at y) (says_then s v u _ _ x b.says d))

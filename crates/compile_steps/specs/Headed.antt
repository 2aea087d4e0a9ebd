-- What a block and a block expression have in common: how their declarations are read and their names pushed, before their items.
use Rattle.std.specs.Prelude.{◌≡◌, refl, List, [], ◌∷◌, ◌++◌, map, ℕ, suc, ◌+◌, ◌*◌, ◌/◌, ◌≤◌, length, drop}
use Rattle.std.proofs.Common.{ap, ◌∙◌, arith, length-append, length-drop}
use Rattle.std.proofs.lemmas.List.Edits.{sets}
use Rattle.std.proofs.Math.Seq.{length-sets}
use Rattle.language.specs.Program.{flat_decl, flat_items}
use Rattle.language.specs.Tree.{Decl, declare, holding, Items, count_items}
use Rattle.language_laws.specs.Claims.{entries_of}
use Rattle.table_scopes.specs.Environment.{Item, item, env_of, add_all}
use Rattle.table_scopes.specs.EnvironmentLaws.{fewer}
use Rattle.table_entries.specs.Entries.{length-entries}
use Rattle.table_entries.specs.Stands.{Stands, stands-within}
use Rattle.table_scopes.specs.Items.{block_items}
use Rattle.table_scopes.specs.Sees.{Legible, Sees}
use Rattle.table_scopes.specs.Trees.{length-Items}
use Rattle.table_scopes.specs.Defines.{head_items, label_items, length-labels, bulk, labels-bulk, enters, Enters}
use Rattle.table_scopes.specs.Defines as defines
use Rattle.table_forms.specs.Part.{table-next}
use Rattle.compile_code.specs.Code.{Code, At}
use Rattle.compile_code.specs.Compile.{Around, bound, scopes_of, held_in}
use Rattle.compile_output.specs.declared.Cursor.{Cursor}
use Rattle.compile_output.specs.EmitRecord.{Fits}
use Rattle.compile_output.specs.EmitCode.{cursor_after, lets, grows, fits-before}
use Rattle.compile_nodes.specs.Knows.{Walk, Knows}
use Rattle.compile_nodes.specs.Ends.{around_head, at_head, ends_head}
use Rattle.compile_nodes.specs.Ready.{Node, flat_n, Place, Lent, Stood, Kept, Wrote, Ready}
use Rattle.compile_emit.specs.EmitEntry.{cursor_head, holds_head}
use Rattle.compile_emit.specs.Opens.{OpenAsks, Pushed, Declared}
use Rattle.compile_scopes.specs.Marks.{open_in}
use Rattle.compile_scopes.specs.Blocks.{within, items-are}
use Rattle.compile_scopes.specs.HeadOps.{head_ops, head-address, head-held}
use Rattle.compile_steps.specs.Parts.{below, lent, flat-N, head-N, wrote-later, wrote-length}
use Rattle.compile_steps.specs.HeadCode.{HeadRead}

-- ── heads ──
-- a variable is no hold
pub held-head : (ds : List Decl) (Γ : List Around) (p : At) → length (held_in (around_head bound ds Γ p)) ≡ length (held_in Γ) + open_in ds
unfolding held_in
held-head = head-held bound (λ a n Γ. refl)

-- a name or a mark for each declaration
names-head : (sort p : ℕ) (ds : List Decl) → length (head_items sort p ds) + open_in ds ≡ length ds
unfolding head_items open_in
names-head sort p [] = refl
names-head sort p (declare x ∷ ds) = omega (arith, names-head sort (suc p) ds)
names-head sort p (holding g ∷ ds) = omega (arith, names-head sort (suc p) ds)

-- ── what is pushed within a block or block expression at a place ──
module _ {l : List ℕ} (legible : Legible l) (place : ℕ) (ds : List Decl) (is : Items) (h : Stands (entries_of l) (place + 1) (map flat_decl ds ++ flat_items is)) where
  pushes : length (block_items l (place + 1) (length ds) (count_items is)) + open_in ds ≡ length ds + defines.labels is
  pushes = rw (items-are legible (place + 1) ds is h)
      (omega (arith, length-append (head_items 4 (place + 1) ds) (label_items (place + 1 + length ds) is), names-head 4 (place + 1) ds, length-labels (place + 1 + length ds) is))

module _ {k : ℕ} {l : List ℕ} {top : ℕ} (at : ℕ) (ds : List Decl) (is : Items) {old new : List ℕ} {up : ℕ}
    (g : Pushed k l (at + 1) (length ds) (count_items is) top (open_in ds) old new up) where
  pushed-now : env_of new up ≡ within k l at ds is (env_of old top)
  pushed-now = g.entered.now ∙ ap (λ (v : List Item). add_all (block_items l (at + 1) (length ds) (count_items is)) (item k 0 0 0 ∷ v)) g.marked.now

  pushed-kept : env_of new top ≡ env_of old top
  pushed-kept = fewer new g.mid top (top + open_in ds) (omega arith) g.entered.kept ∙ g.marked.kept

  pushed-same : length new ≡ length old
  pushed-same = g.entered.same ∙ g.marked.same

  pushed-least : top ≤ up
  pushed-least = omega (arith, g.entered.least)

  pushed_most : up ≤ top + open_in ds + (1 + length (block_items l (at + 1) (length ds) (count_items is)))
  pushed_most = g.entered.most

-- ── before the items ──
-- the declarations and items of a node stand behind its entry; the declarations are read, and the code x and the releases behind them fit
pub record Headed (n : Node) (ds : List Decl) (is : Items) (x : Code) (W : Walk) (X : Place) (l : List ℕ) (at : ℕ) (L : Lent) (top : ℕ) (cursor : Cursor) : Type 0 where
  pub long : suc (length ds + length (flat_items is)) ≤ length (flat_n n)
  pub room : 4 * (top + length (flat_n n)) ≤ length L.env
  pub stands : Stands (entries_of l) (at + 1) (map flat_decl ds ++ flat_items is)
  pub read : HeadRead W l (at + 1) ds X.start cursor L.out
  pub left : Fits (cursor_after (lets (open_in ds)) (cursor_after x (cursor_after (head_ops W.globals ds X.start.cell) cursor))) (length L.out)

module _ {n : Node} {ds : List Decl} {is : Items} {x : Code} {W : Walk} {X : Place} {l part : List ℕ} {nesting at : ℕ} {sizes : List ℕ} {L : Lent} {top holds depth : ℕ} {cursor : Cursor}
    (r : Ready n W X l part nesting at sizes L top holds depth cursor) (h : Headed n ds is x W X l at L top cursor) {heads count : ℕ} (hs : heads ≡ length ds) (cs : count ≡ count_items is) where
  there : at + length (flat_n n) ≤ length (entries_of l)
  there = rw (flat-N n) (stands-within _ _ (rw (flat-N n) at r.laid.stands))

  part-here : below part 8 ≡ drop (8 * (at + 1)) l
  part-here = (table-next r.table 8 1 refl).whole

  pub headed-within : (8 * (1 + heads) ≤ length part) × (at + 1 + heads ≤ 2048)
  headed-within =
      let e = length-entries (length l / 8) l in (
        omega (arith, there, e, hs, h.long, (head-N n r.table r.laid.stands).long),
        omega (arith, there, e, hs, h.long, r.table.legible.short),
      )

  headed-holds : holds_head (below part 8) heads ≡ open_in ds
  headed-holds = rw (part-here, hs) h.read.holds

  headed-declares : Fits (cursor_head (below part 8) heads cursor) (length L.out)
  headed-declares =
      let p = cursor_after (head_ops W.globals ds X.start.cell) cursor in
      rw (part-here, hs, h.read.wrote.advanced)
      (fits-before (length L.out) (grows x p) (fits-before (length L.out) (grows (lets (open_in ds)) (cursor_after x p)) h.left))

  pub headed-asks : OpenAsks l (below part 8) (at + 1) heads count sizes L.env top L.ends L.out cursor
  headed-asks =
      let e = length-entries (length l / 8) l in
      let w : 8 * (at + 1 + heads) ≤ length l = omega (arith, there, e, hs, h.long) in
      let i : Enters l (at + 1) ds is = enters r.table.legible (at + 1) ds is h.stands (rw hs at w) in
      record {
        long = rw part-here (omega (arith, there, e, hs, length-drop (8 * (at + 1)) l, h.long));
        known = r.table.known;
        within = w;
        reach = rw (hs, cs) i.reach;
        short = r.table.legible.short;
        room = rw (headed-holds, hs, cs) (omega (arith, h.room, h.long, pushes r.table.legible at ds is h.stands, labels-bulk is, length-Items is));
        ending = omega (arith, r.ending, hs, h.long);
        fits = headed-declares;
      }

  module _ {opens : ℕ} (o : opens ≡ holds_head (below part 8) heads) where
    pub headed-open : opens ≡ open_in ds
    headed-open = o ∙ headed-holds

    module _ {k : ℕ} {new : List ℕ} {up : ℕ} (g : Pushed k l (at + 1) heads count top opens L.env new up) {ends out : List ℕ} {p : Cursor}
        (w : Declared (below part 8) W.known (at + 1) heads L.ends L.out cursor p ends out) where
      pushed : Pushed k l (at + 1) (length ds) (count_items is) top (open_in ds) L.env new up
      pushed = rw (hs, cs, headed-open) at g

      pub headed-now : env_of new up ≡ within k l at ds is (env_of L.env top)
      headed-now = pushed-now at ds is pushed

      pub headed-same : length new ≡ length L.env
      headed-same = pushed-same at ds is pushed

      -- room for what is pushed within the items is left, and for what stands behind them
      pub headed-most : up + bulk is ≤ top + suc (length ds + length (flat_items is))
      headed-most = omega (arith, pushed_most at ds is pushed, pushes r.table.legible at ds is h.stands, labels-bulk is, length-Items is)

      pub headed-wrote : Wrote L.out out cursor p (head_ops W.globals ds X.start.cell)
      headed-wrote = record { advanced = w.0 ∙ rw (part-here, hs) h.read.wrote.advanced; written = w.1 ∙ rw (part-here, hs) h.read.wrote.written }

      pub headed-ended : ends ≡ sets L.ends (at + 1) (ends_head ds X.start)
      headed-ended = w.2 ∙ rw (part-here, hs, h.read.ends r.stood.address)

      pub headed-ends : length ends ≡ length L.ends
      headed-ends = ap (length {A = ℕ}) headed-ended ∙ length-sets L.ends (at + 1) (ends_head ds X.start)

      pub headed-fits : Fits (cursor_after (lets (open_in ds)) (cursor_after x p)) (length out)
      headed-fits = rw (headed-wrote.advanced, wrote-length headed-wrote) h.left

      pub headed-stood : (Γ : List Around) → Sees l (within k l at ds is (env_of L.env top)) (scopes_of Γ) → Knows W (within k l at ds is (env_of L.env top)) Γ
          → length (held_in Γ) ≡ length (held_in X.around) + open_in ds
          → Stood W (record { around = Γ; types = X.types; start = at_head ds X.start }) l (lent new ends L.stack out) up (holds + opens) depth p
      headed-stood Γ sees knows held =
          record {
            sees = rw headed-now sees;
            knows = rw headed-now knows;
            held = omega (arith, r.stood.held, headed-open, held);
            deep = r.stood.deep;
            typed = r.stood.typed;
            stacked = r.stood.stacked;
            address = ap (λ (z : Cursor). z.address) headed-wrote.advanced ∙ head-address W.globals ds X.start cursor r.stood.address;
            dryness = (wrote-later headed-wrote).same-dry ∙ r.stood.dryness;
            inside = (wrote-later headed-wrote).same-inside ∙ r.stood.inside;
          }

      pub headed-kept : {N : Lent} → Kept (lent new ends L.stack out) N up depth → Kept L N top depth
      headed-kept {N} k =
          record {
            env = fewer N.env new top up (pushed-least at ds is pushed) k.env ∙ pushed-kept at ds is pushed;
            same-env = k.same-env ∙ headed-same;
            same_ends = k.same_ends ∙ headed-ends;
            stack = k.stack;
            same-stack = k.same-stack;
            same_out = k.same_out ∙ wrote-length headed-wrote;
          }

-- A block: its names, its head, its items. What block expressions have too stands first.
use Rattle.std.specs.Prelude.{◌≡◌, refl, List, [], ◌∷◌, ◌++◌, map, ℕ, ◌+◌, ◌-◌, ◌*◌, ◌/◌, ◌≤◌, length, Ok, Err}
use Rattle.std.proofs.Common.{◌∙◌, arith, add_assoc, add-one, length-append}
use Rattle.language.specs.Program.{flat_decl, flat_items, deep_items}
use Rattle.words.specs.Numbers.{half_at, word_at}
use Rattle.language.specs.Tree.{Decl, Items, count_items}
use Rattle.language.specs.Table.{Entry}
use Rattle.language.specs.Names.{Scope, block_of}
use Rattle.language.specs.Faults.{size_items, faults_head, names_head, faults_items}
use Rattle.language_laws.specs.Claims.{entries_of}
use Rattle.table_entries.specs.declared.Fault.{Fault}
use Rattle.table_scopes.specs.Environment.{item as pushed, env_of, add_all, Grown, opened}
use Rattle.table_scopes.specs.EnvironmentLaws.{fewer}
use Rattle.table_entries.specs.Entries.{length-entries}
use Rattle.table_entries.specs.Stands.{Stands, stands-tail, stands-within}
use Rattle.table_entries.specs.Sizes.{Known}
use Rattle.table_scopes.specs.Items.{block_items, Reach}
use Rattle.table_scopes.specs.Flaws.{Verdict, Says, says_first, says_then, head_flaws}
use Rattle.table_scopes.specs.Trees.{length-map, length-Items}
use Rattle.table_scopes.specs.Defines.{labels, labels-bulk, Enters, enters, Entered, heads-stand, items-stand, head-faults}
use Rattle.table_scopes.proofs.EnteredBlocks.{entered-block}
use Rattle.table_forms.specs.Forms.{Form, simple, guard, counted, blocked, bodied, labelled, faults_f, BlockForm}
use Rattle.table_forms.specs.Walk.{Table, Ready, Asks, Answers, ReadyItems, AsksItems, AnswersItems}
use Rattle.table_forms.specs.Part.{head_of, table-next, below}

pub record Block (ds : List Decl) (is : Items) (l part : List ℕ) (heads count nesting at : ℕ) (sizes env : List ℕ) (top : ℕ) : Type 0 where
  pub table : Table l part sizes at
  pub many : heads ≡ length ds
  pub parts : count ≡ count_items is
  pub stands : Stands (entries_of l) (at + 1) (map flat_decl ds ++ flat_items is)
  pub deep : deep_items is ≤ nesting - 1
  pub room : 4 * (top + (1 + (length ds + size_items is))) ≤ length env
  pub within : 8 * (at + 1 + length ds) ≤ length l

pub record EnterAsks (l sizes env : List ℕ) (at heads count top : ℕ) : Type 0 where
  pub known : Known l sizes
  pub within : 8 * (at + heads) ≤ length l
  pub reach : Reach l (at + heads) count
  pub short : length l ≤ 16384
  pub room : 4 * (top + (1 + length (block_items l at heads count))) ≤ length env

-- ── its head and its items, whose names are in sight ──
pub record AsksContents (l part : List ℕ) (heads count nesting at : ℕ) (sizes env : List ℕ) (top : ℕ) : Type 0 where
  pub fits : 8 * (1 + heads) ≤ length part
  pub within : 8 * (at + 1 + heads) ≤ length l
  pub short : length l ≤ 16384
  pub room : 4 * top ≤ length env
  pub asks : AsksItems l (below part (8 * (1 + heads))) count nesting (at + 1 + heads) sizes env top

pub record AnswersContents (l part : List ℕ) (heads count nesting at : ℕ) (sizes old new : List ℕ) (top : ℕ) (r : Verdict) : Type 0 where
  pub kept : env_of new top ≡ env_of old top
  pub same : length new ≡ length old
  pub judged : (is : Items) (ss : List Scope) (seen : List ℕ) → ReadyItems is ss seen l (below part (8 * (1 + heads))) count nesting (at + 1 + heads) sizes old top
      → Says r (head_flaws l (env_of old top) (at + 1) heads ++ faults_items ss seen (at + 1 + heads) is)

module _ {l part : List ℕ} {heads count nesting at : ℕ} {sizes old : List ℕ} {top : ℕ} {r : Verdict} (y : Says r (head_flaws l (env_of old top) (at + 1) heads)) where
  pub contents-stop : (bad : Fault) → r ≡ Err bad → AnswersContents l part heads count nesting at sizes old old top (Err bad)
  contents-stop bad e = record { kept = refl; same = refl; judged = λ is ss seen q. says_first r bad _ _ e y }

  pub contents-judged : (t : ℕ) {new : List ℕ} {s : Verdict} → r ≡ Ok t
      → AnswersItems l (below part (8 * (1 + heads))) count nesting (at + 1 + heads) sizes old new top s → AnswersContents l part heads count nesting at sizes old new top s
  contents-judged t {new} {s} e z = record { kept = z.kept; same = z.same; judged = λ is ss seen q. says_then r s t _ _ e y (z.judged is ss seen q) }

-- ── its names ──
module _ {ds : List Decl} {is : Items} {l part : List ℕ} {heads count nesting at : ℕ} {sizes env : List ℕ} {top : ℕ} (b : Block ds is l part heads count nesting at sizes env top) where
  entering : Enters l (at + 1) ds is
  entering = enters b.table.legible (at + 1) ds is b.stands b.within

  pub enter-asks : EnterAsks l sizes env (at + 1) heads count top
  enter-asks =
      rw (b.many, b.parts) (record {
        known = b.table.known;
        within = b.within;
        reach = entering.reach;
        short = b.table.legible.short;
        room = omega (arith, b.room, entering.least, labels-bulk is);
      })

  module _ (k : ℕ) {ss : List Scope} {mid : List ℕ} {up : ℕ} (g : Grown top env mid up
      (add_all (block_items l (at + 1) heads count) (pushed k 0 0 0 ∷ env_of env top)) (1 + length (block_items l (at + 1) heads count)))
      (e : Entered l (add_all (block_items l (at + 1) (length ds) (count_items is)) (pushed k 0 0 0 ∷ env_of env top)) ss (at + 1) ds is) where
    now-is : env_of mid up ≡ add_all (block_items l (at + 1) (length ds) (count_items is)) (pushed k 0 0 0 ∷ env_of env top)
    now-is = rw (b.many, b.parts) at g.now

    most : up ≤ top + (1 + (length ds + labels is))
    most = let m : up ≤ top + (1 + length (block_items l (at + 1) (length ds) (count_items is))) = rw (b.many, b.parts) at g.most in omega (arith, entering.least)

    block-heads : head_flaws l (env_of mid up) (at + 1) heads ≡ faults_head ss [] (at + 1) ds
    block-heads = rw (b.many, now-is) (head-faults b.table.legible e.sees (at + 1) ds [] (heads-stand b.table.legible (at + 1) ds is b.stands) e.head)

    pub block-items : ReadyItems is ss (names_head ds) l (below part (8 * (1 + heads))) count (nesting - 1) (at + 1 + heads) sizes mid up
    block-items =
        record {
          table = rw (add_assoc at 1 heads) (table-next b.table (8 * (1 + heads)) (1 + heads) refl);
          stands = rw b.many (items-stand b.table.legible (at + 1) ds is b.stands);
          deep = b.deep;
          room = omega (arith, most, b.room, g.same, labels-bulk is);
          sees = rw now-is e.sees;
          once = rw (b.many, now-is) e.items;
          many = b.parts;
        }

    pub block-inner : {x : Entry} {us : List Entry} → Stands (entries_of l) at (x ∷ us) → AsksContents l part heads count (nesting - 1) at sizes mid up
    block-inner s =
        let d = head_of _ _ b.table s in
        let m = b.many in
        record {
          fits = omega (arith, d.long, b.within);
          within = rw m b.within;
          short = b.table.legible.short;
          room = omega (arith, g.most, g.same, enter-asks.room);
          asks = record { items = is; scopes = ss; seen = names_head ds; ready = block-items };
        }

    pub block-says : {new : List ℕ} {s : Verdict} → AnswersContents l part heads count (nesting - 1) at sizes mid new up s
        → Says s (faults_head ss [] (at + 1) ds ++ faults_items ss (names_head ds) (at + 1 + heads) is)
    block-says z = rw block-heads at (z.judged is ss (names_head ds) block-items)

  pub block-most : length (block_items l (at + 1) heads count) ≤ length ds + labels is
  block-most = rw (b.many, b.parts) entering.least

-- a block
pub record Blocked (f : Form) (ss : List Scope) (seen l part : List ℕ) (heads count nesting at : ℕ) (sizes env : List ℕ) (top : ℕ) : Type 0 where
  pub ds : List Decl
  pub is : Items
  pub block : Block ds is l part heads count nesting at sizes env top
  pub entered : Entered l (add_all (block_items l (at + 1) (length ds) (count_items is)) (pushed opened 0 0 0 ∷ env_of env top)) (block_of ds is ∷ ss) (at + 1) ds is
  pub faults : faults_f ss seen at f ≡ faults_head (block_of ds is ∷ ss) [] (at + 1) ds ++ faults_items (block_of ds is ∷ ss) (names_head ds) (at + 1 + heads) is

abbrev pub Counts : List ℕ → ℕ → ℕ → Type 0
Counts part heads count = (heads ≡ half_at part 2) × (count ≡ word_at part 4)

pub blocked-of : (f : Form) → BlockForm f → {ss : List Scope} {seen l part : List ℕ} {nesting at : ℕ} {sizes env : List ℕ} {top : ℕ} (heads count : ℕ) → Counts part heads count
    → Ready f ss seen l part nesting at sizes env top → Blocked f ss seen l part heads count nesting at sizes env top
blocked-of (simple o es) h heads count c q = absurd h
blocked-of (guard g e is) h heads count c q = absurd h
blocked-of (counted a e f g s) h heads count c q = absurd h
blocked-of (bodied ds is e) h heads count c q = absurd h
blocked-of (labelled a) h heads count c q = absurd h
blocked-of (blocked ds is) h {l = l} {at = at} heads count c q =
    let d = head_of _ _ q.table q.stands in
    let w = stands-tail _ _ q.stands in
    let z = stands-within _ _ q.stands in
    record {
      ds = ds;
      is = is;
      block = record {
        table = q.table;
        many = c.0 ∙ d.a;
        parts = c.1 ∙ d.b (count_items is) refl;
        stands = w;
        deep = omega (arith, q.deep);
        room = omega (arith, q.room, length-append (map flat_decl ds) (flat_items is), length-map flat_decl ds, length-Items is);
        within = omega (arith, z, length-entries (length l / 8) l, length-append (map flat_decl ds) (flat_items is), length-map flat_decl ds);
      };
      entered = entered-block q.table.legible (at + 1) ds is w q.sees;
      faults = rw (c.0 ∙ d.a, add-one at);
    }

-- ── asked and answered ──
abbrev pub Pushed : ℕ → List ℕ → ℕ → ℕ → ℕ → ℕ → List ℕ → List ℕ → ℕ → Type 0
Pushed k l at heads count top env mid up = Grown top env mid up (add_all (block_items l (at + 1) heads count) (pushed k 0 0 0 ∷ env_of env top)) (1 + length (block_items l (at + 1) heads count))

module _ {l part : List ℕ} {nesting at : ℕ} {sizes old : List ℕ} {top : ℕ} (heads count : ℕ) (c : Counts part heads count) where
  pub block-asks : Asks BlockForm l part nesting at sizes old top → EnterAsks l sizes old (at + 1) heads count top
  block-asks q = enter-asks (blocked-of q.form q.holds heads count c q.ready).block

  module _ {mid : List ℕ} {up : ℕ} (g : Pushed opened l at heads count top old mid up) where
    pub block-contents : Asks BlockForm l part nesting at sizes old top → AsksContents l part heads count (nesting - 1) at sizes mid up
    block-contents q = let b = blocked-of q.form q.holds heads count c q.ready in block-inner b.block opened g b.entered q.ready.stands

    pub block-judged : {new : List ℕ} {s : Verdict} → AnswersContents l part heads count (nesting - 1) at sizes mid new up s
        → Answers BlockForm l part nesting at sizes old new top s
    block-judged {new} z =
        record {
          kept = fewer new mid top up g.least z.kept ∙ g.kept;
          same = z.same ∙ g.same;
          judged = λ f ss seen h q. let b = blocked-of f h heads count c q in rw b.faults (block-says b.block opened g b.entered z);
        }

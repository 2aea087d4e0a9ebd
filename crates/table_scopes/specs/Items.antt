-- The names that the entries of a head and of a block's labels define, as they are pushed: near the code, over the bytes of a table.
use Rattle.std.specs.Prelude.{◌≡◌, refl, List, [], ◌∷◌, ◌++◌, ℕ, zero, suc, ◌+◌, ◌-◌, ◌*◌, ◌≤◌, ◌<◌, eqb, drop}
use Rattle.std.proofs.Math.Path.{ap, sym}
use Rattle.std.proofs.Common.{◌∙◌, arith, eq-eqb, ne_eqb, length-append}
use Rattle.std.proofs.Math.ListN.{length}
use Rattle.logic.specs.Choice.{If◌then◌else◌}
use Rattle.words.specs.Numbers.{half_at, word_at}
use Rattle.language_laws.specs.Claims.{entries_of}
use Rattle.table_entries.specs.Spans.{span}
use Rattle.table_scopes.specs.Environment.{Item, item, add_all, adding, env_of, Grown}
use Rattle.table_scopes.specs.EnvironmentLaws.{all_append, fewer, grown-none}

-- the fields of the entry at a place
abbrev pub kind_at : List ℕ → ℕ → ℕ
kind_at l p = half_at l (8 * p)

abbrev pub a_at : List ℕ → ℕ → ℕ
a_at l p = half_at l (8 * p + 2)

abbrev pub b_at : List ℕ → ℕ → ℕ
b_at l p = word_at l (8 * p + 4)

-- the place after the part at a place
abbrev pub after : List ℕ → ℕ → ℕ
after l p = p + span 1 (drop p (entries_of l))

-- "sort: 4 a variable, 5 a label, 6 a class, 7 a procedure, 65,536 + c a field of class c" (and 8 a control name, `enter_loop`); the number is b of the entry
unfoldable pub one_at : ℕ → ℕ → List ℕ → ℕ → List Item
one_at k sort l p = If eqb (kind_at l p) k then item (a_at l p) sort (b_at l p) p ∷ [] else []

-- the variables of a head
unfoldable pub items_at : ℕ → List ℕ → ℕ → ℕ → List Item
items_at sort l p zero = []
items_at sort l p (suc n) = one_at 10 sort l p ++ items_at sort l (p + 1) n

-- the labels among so many items
unfoldable pub labels_from : List ℕ → ℕ → ℕ → List Item
labels_from l p zero = []
labels_from l p (suc n) = one_at 20 5 l p ++ labels_from l (after l p) n

-- so many parts begin within the table
unfoldable pub Reach : List ℕ → ℕ → ℕ → Type 0
Reach l p zero = Unit {0}
Reach l p (suc n) = (8 * (p + 1) ≤ length l) × Reach l (after l p) n

-- the declarations of the root
unfoldable pub global_at : List ℕ → ℕ → List Item
global_at l p =
    If eqb (kind_at l p) 11 then one_at 11 6 l p ++ items_at (65536 + a_at l p) l (p + 1) (b_at l p) else
    If eqb (kind_at l p) 12 then one_at 12 7 l p else one_at 10 4 l p

unfoldable pub globals_from : List ℕ → ℕ → ℕ → List Item
globals_from l p zero = []
globals_from l p (suc n) = global_at l p ++ globals_from l (after l p) n

pub record WithinGlobal (l : List ℕ) (p : ℕ) : Type 0 where
  pub within : 8 * (p + 1) ≤ length l
  pub fields : kind_at l p ≡ 11 → 8 * (p + 1 + b_at l p) ≤ length l

unfoldable pub ReachGlobals : List ℕ → ℕ → ℕ → Type 0
ReachGlobals l p zero = Unit {0}
ReachGlobals l p (suc n) = WithinGlobal l p × ReachGlobals l (after l p) n

abbrev pub block_items : List ℕ → ℕ → ℕ → ℕ → List Item
block_items l p heads items = items_at 4 l p heads ++ labels_from l (p + heads) items

abbrev pub root_items : List ℕ → ℕ → ℕ → ℕ → List Item
root_items l heads p items = globals_from l 1 heads ++ labels_from l p items

-- ── adding in a loop: what is added so far, and what is left ──
pub record Adds (all : List Item) (top : ℕ) (old : List ℕ) (left : List Item) (up : ℕ) (new : List ℕ) : Type 0 where
  pub goes : add_all all (env_of old top) ≡ add_all left (env_of new up)
  pub kept : env_of new top ≡ env_of old top
  pub same : length new ≡ length old
  pub least : top ≤ up
  pub most : up + length left ≤ top + length all

pub adds-start : (all : List Item) (top : ℕ) (old : List ℕ) → Adds all top old all top old
adds-start all top old = record { goes = refl; kept = refl; same = refl; least = omega arith; most = omega arith }

module _ {all left : List Item} {top up : ℕ} {old mid : List ℕ} (a : Adds all top old left up mid) where
  pub adds-room : (xs ys : List Item) → left ≡ xs ++ ys → 4 * (top + length all) ≤ length old → 4 * (up + length xs) ≤ length mid
  adds-room xs ys e h = omega (arith, a.same, a.most, ap length e, length-append xs ys)

  pub adds-next : (xs ys : List Item) {r : ℕ} {new : List ℕ} → left ≡ xs ++ ys → Grown up mid new r (add_all xs (env_of mid up)) (length xs) → Adds all top old ys r new
  adds-next xs ys {r} {new} e g =
      record {
        goes = a.goes ∙ rw (e, all_append xs ys (env_of mid up), g.now);
        kept = fewer new mid top up a.least g.kept ∙ a.kept;
        same = g.same ∙ a.same;
        least = omega (arith, g.least, a.least);
        most = omega (arith, g.most, a.most, ap length e, length-append xs ys);
      }

  pub adds-end : left ≡ [] → Grown top old mid up (add_all all (env_of old top)) (length all)
  unfolding add_all
  adds-end e = record { now = sym (a.goes ∙ rw e); kept = a.kept; same = a.same; least = a.least; most = omega (arith, a.most, ap length e) }

-- one after the other
pub grown-append : (xs ys : List Item) {top mid r : ℕ} {old m new : List ℕ} → Grown top old m mid (add_all xs (env_of old top)) (length xs) → Grown mid m new r (add_all ys (env_of m mid)) (length ys)
    → Grown top old new r (add_all (xs ++ ys) (env_of old top)) (length (xs ++ ys))
grown-append xs ys {top} {mid} {r} {old} {m} {new} g h =
    record {
      now = h.now ∙ rw (g.now, all_append xs ys (env_of old top));
      kept = fewer new m top mid g.least h.kept ∙ g.kept;
      same = h.same ∙ g.same;
      least = omega (arith, g.least, h.least);
      most = omega (arith, g.most, h.most, length-append xs ys);
    }

-- a mark and what is added above it
pub grown-marked : (i : Item) (xs : List Item) {top r : ℕ} {old m new : List ℕ} → Grown top old m (top + 1) (i ∷ env_of old top) 1 → Grown (top + 1) m new r (add_all xs (env_of m (top + 1))) (length xs)
    → Grown top old new r (add_all xs (i ∷ env_of old top)) (1 + length xs)
grown-marked i xs {top} {r} {old} {m} {new} g h =
    record {
      now = h.now ∙ rw g.now;
      kept = fewer new m top (top + 1) g.least h.kept ∙ g.kept;
      same = h.same ∙ g.same;
      least = omega (arith, h.least);
      most = omega (arith, h.most);
    }

-- a mark and one item above it
pub grown-two : (i j : Item) {top : ℕ} {old m new : List ℕ} → Grown top old m (top + 1) (i ∷ env_of old top) 1 → Grown (top + 1) m new (top + 1 + 1) (j ∷ env_of m (top + 1)) 1
    → Grown top old new (top + 2) (j ∷ (i ∷ env_of old top)) 2
grown-two i j {top} {old} {m} {new} g h =
    let e : top + 1 + 1 ≡ top + 2 = omega arith in
    record {
      now = rw (← e) (h.now ∙ rw g.now);
      kept = fewer new m top (top + 1) g.least h.kept ∙ g.kept;
      same = h.same ∙ g.same;
      least = omega arith;
      most = omega arith;
    }

-- ── one step of each loop ──
pub items_more : (sort : ℕ) (l : List ℕ) (p n : ℕ) → 0 < n → items_at sort l p n ≡ one_at 10 sort l p ++ items_at sort l (p + 1) (n - 1)
unfolding items_at
items_more sort l p n h = let e : n ≡ suc (n - 1) = omega arith in ap (items_at sort l p) e

pub items-start : (sort : ℕ) (l : List ℕ) (p n : ℕ) → items_at sort l p n ≡ items_at sort l p (p + n - p)
items-start sort l p n = let e : n ≡ p + n - p = omega arith in ap (items_at sort l p) e

pub items_next : (sort : ℕ) (l : List ℕ) (p e : ℕ) → p < e → items_at sort l p (e - p) ≡ one_at 10 sort l p ++ items_at sort l (p + 1) (e - (p + 1))
unfolding items_at
items_next sort l p e h = let k : e - p ≡ suc (e - (p + 1)) = omega arith in ap (items_at sort l p) k

pub items-none : (sort : ℕ) (l : List ℕ) (p n : ℕ) → n ≡ 0 → items_at sort l p n ≡ []
unfolding items_at
items-none sort l p n e = rw e

pub labels-more : (l : List ℕ) (p n s : ℕ) → 0 < n → s ≡ span 1 (drop p (entries_of l)) → labels_from l p n ≡ one_at 20 5 l p ++ labels_from l (p + s) (n - 1)
unfolding labels_from
labels-more l p n s h z = let e : n ≡ suc (n - 1) = omega arith in rw z (ap (labels_from l p) e)

pub labels-none : (l : List ℕ) (p n : ℕ) → n ≡ 0 → labels_from l p n ≡ []
unfolding labels_from
labels-none l p n e = rw e

pub reach_here : (l : List ℕ) (p n : ℕ) → 0 < n → Reach l p n → 8 * (p + 1) ≤ length l
unfolding Reach
reach_here l p zero h r = absurd (omega arith)
reach_here l p (suc n) h r = r.0

pub reach-next : (l : List ℕ) (p n s : ℕ) → 0 < n → s ≡ span 1 (drop p (entries_of l)) → Reach l p n → Reach l (p + s) (n - 1)
unfolding Reach
reach-next l p zero s h z r = absurd (omega arith)
reach-next l p (suc n) s h z r = let e : suc n - 1 ≡ n = omega arith in rw (z, e) r.1

pub globals-more : (l : List ℕ) (p n s : ℕ) → 0 < n → s ≡ span 1 (drop p (entries_of l)) → globals_from l p n ≡ global_at l p ++ globals_from l (p + s) (n - 1)
unfolding globals_from
globals-more l p n s h z = let e : n ≡ suc (n - 1) = omega arith in rw z (ap (globals_from l p) e)

pub globals-none : (l : List ℕ) (p n : ℕ) → n ≡ 0 → globals_from l p n ≡ []
unfolding globals_from
globals-none l p n e = rw e

pub globals-here : (l : List ℕ) (p n : ℕ) → 0 < n → ReachGlobals l p n → WithinGlobal l p
unfolding ReachGlobals
globals-here l p zero h r = absurd (omega arith)
globals-here l p (suc n) h r = r.0

pub globals-next : (l : List ℕ) (p n s : ℕ) → 0 < n → s ≡ span 1 (drop p (entries_of l)) → ReachGlobals l p n → ReachGlobals l (p + s) (n - 1)
unfolding ReachGlobals
globals-next l p zero s h z r = absurd (omega arith)
globals-next l p (suc n) s h z r = let e : suc n - 1 ≡ n = omega arith in rw (z, e) r.1

-- the entry is of the kind, or not
pub one-is : (k sort : ℕ) (l : List ℕ) (p : ℕ) → kind_at l p ≡ k → one_at k sort l p ≡ item (a_at l p) sort (b_at l p) p ∷ []
unfolding one_at
one-is k sort l p e = rw (eq-eqb _ _ e)

pub one-not : (k sort : ℕ) (l : List ℕ) (p : ℕ) → ¬ (kind_at l p ≡ k) → one_at k sort l p ≡ []
unfolding one_at
one-not k sort l p e = rw (ne_eqb _ _ e)

pub add-single : (i : Item) (v : List Item) → add_all (i ∷ []) v ≡ adding i v
unfolding add_all
add-single i v = refl

pub grown-zero : (l : List ℕ) (n : ℕ) → Grown n l l n (add_all [] (env_of l n)) 0
unfolding add_all
grown-zero l n = grown-none l n

-- a declaration of the root, by its kind
pub global-class : (l : List ℕ) (p : ℕ) → kind_at l p ≡ 11 → global_at l p ≡ one_at 11 6 l p ++ items_at (65536 + a_at l p) l (p + 1) (b_at l p)
unfolding global_at
global-class l p e = rw (eq-eqb _ _ e)

pub global-procedure : (l : List ℕ) (p : ℕ) → kind_at l p ≡ 12 → global_at l p ≡ one_at 12 7 l p
unfolding global_at
global-procedure l p e = let k : ¬ (kind_at l p ≡ 11) = λ z. omega arith in rw (ne_eqb _ _ k, eq-eqb _ _ e)

pub global-local : (l : List ℕ) (p : ℕ) → ¬ (kind_at l p ≡ 11) → ¬ (kind_at l p ≡ 12) → global_at l p ≡ one_at 10 4 l p
unfolding global_at
global-local l p j k = rw (ne_eqb _ _ j, ne_eqb _ _ k)

-- room for two lists, once the first is added
pub room-left : (xs ys : List Item) (top n : ℕ) → 4 * (top + length (xs ++ ys)) ≤ n → 4 * (top + length xs) ≤ n
room-left xs ys top n h = omega (arith, length-append xs ys)

pub room-right : (xs ys : List Item) {top r : ℕ} {old new : List ℕ} {v : List Item} → 4 * (top + length (xs ++ ys)) ≤ length old → Grown top old new r v (length xs) → 4 * (r + length ys) ≤ length new
room-right xs ys h g = omega (arith, length-append xs ys, g.most, g.same)

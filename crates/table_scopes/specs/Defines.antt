-- The items of heads and labels over trees: they are those that are pushed, and they match the definitions of the block.
use Rattle.std.specs.Prelude.{◌≡◌, Bool, ◌||◌, eqb, leb, pos, length, drop}
use Rattle.std.proofs.Math.Path.{refl, ap}
use Rattle.std.proofs.Common.{sym, ◌∙◌, arith, add-zero, length-append, ne_eqb, le-ltb, le-leb, leb-true}
use Rattle.std.proofs.Math.Bool.{true, false}
use mathlib.Core.List.{List, [], ◌∷◌, ◌++◌, map, append-nil}
use Rattle.std.proofs.Math.Option.{none, some}
use Prim.Native.Nat.{ℕ, zero, suc, ◌+◌, ◌-◌, ◌*◌, ◌≤◌, ◌<◌}
use Rattle.std.proofs.Math.Numerals.{add-one}
use Rattle.language.specs.Measure.{measure_s}
use Rattle.language.specs.Program.{flat_typed, flat_decl, flat_s, flat_items}
use Rattle.logic.specs.Lists.{among}
use Rattle.logic.specs.Options.{is_some}
use Rattle.logic.specs.Choice.{If◌then◌else◌}
use Rattle.words.specs.Laws.{two, four, number-below}
use Rattle.values.specs.Types.{Ty, integer, logical, bits, reference, ty_code}
use Rattle.language.specs.Tree.{Typed, Decl, declare, holding, Stmt, block, assign, when, choose, while, goto, assert, call, set_level, select, for, Items, no_item, label, item, count_items}
use Rattle.language.specs.Table.{Entry, entry, in_layout}
use Rattle.language.specs.Names.{is_variable, is_label, is_class, is_field, is_procedure, is_control, defines_typed, defines_head, defines_items, defines_fields, Scope}
use Rattle.language.specs.Names.{block_of, expression_of, nowhere, found, lookup}
use Rattle.language.specs.Names as names
use Rattle.language.specs.Faults.{twice, type_faults, named, class_sort, faults_typed, faults_head, names_head, size_s, size_items}
use Rattle.logic.specs.Tests.{clash, or-false}
use Rattle.language_laws.specs.Claims.{entries_of}
use Rattle.table_scopes.specs.Environment.{Item, Found, Nothing, Def, opened, shut, find, add_all}
use Rattle.table_scopes.specs.Environment as env
use Rattle.table_scopes.specs.EnvironmentLaws.{Small, small-append}
use Rattle.table_entries.specs.Arity.{parts}
use Rattle.table_entries.specs.Spans.{Spans, span, spans-one, spans-none}
use Rattle.table_entries.specs.Stands.{Stands, stands-left, stands-right, stands-tail, Fields, fields, field-number}
use Rattle.table_scopes.specs.Items.{kind_at, a_at, b_at, after, one_at, items_at, labels_from, Reach, block_items, one-is, one-not}
use Rattle.table_scopes.specs.Flaws.{once_flaw, class_of, class_flaw, head_flaws, decl-is, decl-not}
use Rattle.table_scopes.specs.Trees.{length-map, length-S, spans-S}
use Rattle.table_scopes.specs.Sees.{Legible, Agrees, Sees, Matches, matches-append}
use Rattle.table_scopes.specs.Once.{OnceAll, Rising, rising-later}

-- ── the items ──
unfoldable pub head_items : ℕ → ℕ → List Decl → List Item
head_items sort p [] = []
head_items sort p (declare x ∷ ds) = env.item x.name sort (ty_code x.type) p ∷ head_items sort (suc p) ds
head_items sort p (holding g ∷ ds) = head_items sort (suc p) ds

unfoldable pub label_items : ℕ → Items → List Item
label_items p no_item = []
label_items p (label a is) = env.item a 5 0 p ∷ label_items (suc p) is
label_items p (item s is) = label_items (p + size_s s) is

-- how many labels, and the entries of the other items
unfoldable pub labels : Items → ℕ
labels no_item = 0
labels (label a is) = suc (labels is)
labels (item s is) = labels is

unfoldable pub bulk : Items → ℕ
bulk no_item = 0
bulk (label a is) = bulk is
bulk (item s is) = size_s s + bulk is

pub labels-bulk : (is : Items) → size_items is ≡ labels is + bulk is
unfolding labels bulk measure_s
labels-bulk no_item = refl
labels-bulk (label a is) = omega (arith, labels-bulk is)
labels-bulk (item s is) = omega (arith, labels-bulk is)

pub length-heads : (sort p : ℕ) (ds : List Decl) → length (head_items sort p ds) ≤ length ds
unfolding head_items
length-heads sort p [] = omega arith
length-heads sort p (declare x ∷ ds) = omega (arith, length-heads sort (suc p) ds)
length-heads sort p (holding g ∷ ds) = omega (arith, length-heads sort (suc p) ds)

pub length-labels : (p : ℕ) (is : Items) → length (label_items p is) ≡ labels is
unfolding label_items labels
length-labels p no_item = refl
length-labels p (label a is) = ap suc (length-labels (suc p) is)
length-labels p (item s is) = length-labels (p + size_s s) is

-- ── they are those that are pushed ──
pub span-here : (l : List ℕ) {p : ℕ} (us : List Entry) → Spans 1 us → Stands (entries_of l) p us → span 1 (drop p (entries_of l)) ≡ length us
span-here l us s h = rw h.split (s.spans h.rest)

module _ {l : List ℕ} (legible : Legible l) where
  pub number-here : {p : ℕ} {e : Entry} (n : ℕ) → Fields l p e → e.b ≡ pos n → b_at l p ≡ n
  number-here {p} n f e = field-number (b_at l p) n (number-below l legible.bytes (8 * p + 4) four) (f.b ∙ e)

  pub head-items : (sort p : ℕ) (ds : List Decl) → Stands (entries_of l) p (map flat_decl ds) → items_at sort l p (length ds) ≡ head_items sort p ds
  unfolding head_items items_at flat_decl flat_typed
  head-items sort p [] h = refl
  head-items sort p (declare x ∷ ds) h =
      let f = fields l p _ _ h in
      let t = rw (add-one p) at (head-items sort (p + 1) ds (stands-tail _ _ h)) in
      rw (one-is 10 sort l p f.kind, f.a, number-here (ty_code x.type) f refl, add-one p, t)
  head-items sort p (holding g ∷ ds) h =
      let f = fields l p _ _ h in
      let t = rw (add-one p) at (head-items sort (p + 1) ds (stands-tail _ _ h)) in
      let k : ¬ (kind_at l p ≡ 10) = λ z. omega (arith, f.kind) in
      rw (one-not 10 sort l p k, add-one p, t)

  -- a statement is no label
  plain : {p : ℕ} {e : Entry} (us : List Entry) → Stands (entries_of l) p (e ∷ us) → ¬ (e.kind ≡ 20) → ¬ (kind_at l p ≡ 20) × (8 * (p + 1) ≤ length l)
  plain us h k = let f = fields l _ _ us h in (λ z. k (sym f.kind ∙ z), f.within)

  pub no_label : {p : ℕ} (s : Stmt) → Stands (entries_of l) p (flat_s s) → ¬ (kind_at l p ≡ 20) × (8 * (p + 1) ≤ length l)
  unfolding flat_s
  no_label (block ds is) h = plain _ h (λ z. omega arith)
  no_label (assign x e) h = plain _ h (λ z. omega arith)
  no_label (when e s) h = plain _ h (λ z. omega arith)
  no_label (choose e s t) h = plain _ h (λ z. omega arith)
  no_label (while e s) h = plain _ h (λ z. omega arith)
  no_label (goto a) h = plain _ h (λ z. omega arith)
  no_label (assert e) h = plain _ h (λ z. omega arith)
  no_label (call a es) h = plain _ h (λ z. omega arith)
  no_label (set_level e f) h = plain _ h (λ z. omega arith)
  no_label (select e r) h = plain _ h (λ z. omega arith)
  no_label (for a e f g s) h = plain _ h (λ z. omega arith)

  pub label-items : (p : ℕ) (is : Items) → Stands (entries_of l) p (flat_items is) → Reach l p (count_items is) × (labels_from l p (count_items is) ≡ label_items p is)
  unfolding label_items labels_from Reach count_items flat_items parts
  label-items p no_item h = (tt, refl)
  label-items p (label a is) h =
      let f = fields l p _ _ h in
      let e : after l p ≡ suc p = ap (λ (n : ℕ). p + n) (span-here l (entry 20 a (pos 0) ∷ []) (spans-one _ _ spans-none) (stands-left (entry 20 a (pos 0) ∷ []) (flat_items is) h)) ∙ add-one p in
      let t = label-items (suc p) is (rw (add-one p) at (stands-tail _ _ h)) in
      rw (e, one-is 20 5 l p f.kind, f.a, number-here 0 f refl) ((f.within, t.0), ap (λ (v : List Item). env.item a 5 0 p ∷ v) t.1)
  label-items p (item s is) h =
      let g = no_label s (stands-left (flat_s s) (flat_items is) h) in
      let e : after l p ≡ p + size_s s = ap (λ (n : ℕ). p + n) (span-here l (flat_s s) (spans-S s) (stands-left (flat_s s) (flat_items is) h) ∙ length-S s) in
      let t = label-items (p + size_s s) is (rw (length-S s) at (stands-right (flat_s s) (flat_items is) h)) in
      rw (e, one-not 20 5 l p g.0) ((g.1, t.0), t.1)

  -- names are numbers of 16 bits
  pub name-small : (p : ℕ) → a_at l p < 65536
  name-small p = number-below l legible.bytes (8 * p + 2) two

  pub one-small : (k sort p : ℕ) → Small (one_at k sort l p)
  unfolding one_at Small
  one-small k sort p = go (eqb (kind_at l p) k) (name-small p)
    where
      go : (b : Bool) → a_at l p < 65536 → Small (If b then env.item (a_at l p) sort (b_at l p) p ∷ [] else [])
      go true h = (h, tt)
      go false h = tt

  pub items-small : (sort p n : ℕ) → Small (items_at sort l p n)
  unfolding items_at Small
  items-small sort p zero = tt
  items-small sort p (suc n) = small-append (one_at 10 sort l p) (items_at sort l (p + 1) n) (one-small 10 sort p) (items-small sort (p + 1) n)

  pub labels-small : (p n : ℕ) → Small (labels_from l p n)
  unfolding labels_from Small
  labels-small p zero = tt
  labels-small p (suc n) = small-append (one_at 20 5 l p) (labels_from l (after l p) n) (one-small 20 5 p) (labels-small (after l p) n)

-- ── they match the definitions ──
module _ (l : List ℕ) where
  pub head-matches : (p : ℕ) (ds : List Decl) → Matches l (head_items 4 p ds) (defines_head ds)
  unfolding head_items defines_head Matches
  head-matches p [] = tt
  head-matches p (declare x ∷ ds) = (refl, (refl, refl), head-matches (suc p) ds)
  head-matches p (holding g ∷ ds) = head-matches (suc p) ds

  pub label-matches : (p : ℕ) (is : Items) → Matches l (label_items p is) (defines_items is)
  unfolding label_items defines_items Matches
  label-matches p no_item = tt
  label-matches p (label a is) = (refl, refl, label-matches (suc p) is)
  label-matches p (item s is) = label-matches (p + size_s s) is

  pub typed-matches : (p : ℕ) (xs : List Typed) → Matches l (head_items 4 p (map declare xs)) (defines_typed xs)
  unfolding head_items defines_typed Matches
  typed-matches p [] = tt
  typed-matches p (x ∷ xs) = (refl, (refl, refl), typed-matches (suc p) xs)

  pub field-matches : (c p : ℕ) (xs : List Typed) → Matches l (head_items (65536 + c) p (map declare xs)) (defines_fields c xs)
  unfolding head_items defines_fields Matches
  field-matches c p [] = tt
  field-matches c p (x ∷ xs) = (refl, (refl, refl), field-matches c (suc p) xs)

-- ── their places rise ──
pub head-rising : (sort p : ℕ) (ds : List Decl) (js : List Item) → Rising (p + length ds) js → Rising p (head_items sort p ds ++ js)
unfolding head_items Rising
head-rising sort p [] js r = rw (add-zero p) at r
head-rising sort p (declare x ∷ ds) js r = (omega arith, head-rising sort (suc p) ds js (rising-later (p + suc (length ds)) (suc p + length ds) js (omega arith) r))
head-rising sort p (holding g ∷ ds) js r =
    rising-later (suc p) p (head_items sort (suc p) ds ++ js) (omega arith) (head-rising sort (suc p) ds js (rising-later (p + suc (length ds)) (suc p + length ds) js (omega arith) r))

pub label-rising : (p : ℕ) (is : Items) → Rising p (label_items p is)
unfolding label_items Rising
label-rising p no_item = tt
label-rising p (label a is) = (omega arith, label-rising (suc p) is)
label-rising p (item s is) = rising-later (p + size_s s) p (label_items (p + size_s s) is) (omega arith) (label-rising (p + size_s s) is)

-- ── each has the faults that the names before it give ──
unfoldable pub OnceHead : List Item → List ℕ → ℕ → List Decl → Type 0
OnceHead v seen p [] = Unit {0}
OnceHead v seen p (declare x ∷ ds) = (once_flaw v x.name p ≡ twice x.name seen p) × OnceHead v (x.name ∷ seen) (suc p) ds
OnceHead v seen p (holding g ∷ ds) = OnceHead v seen (suc p) ds

unfoldable pub OnceItems : List Item → List ℕ → ℕ → Items → Type 0
OnceItems v seen p no_item = Unit {0}
OnceItems v seen p (label a is) = (once_flaw v a p ≡ twice a seen p) × OnceItems v (a ∷ seen) (suc p) is
OnceItems v seen p (item s is) = OnceItems v seen (p + size_s s) is

-- the names of a head, the last first
unfoldable pub seen_head : List Decl → List ℕ → List ℕ
seen_head [] seen = seen
seen_head (declare x ∷ ds) seen = seen_head ds (x.name ∷ seen)
seen_head (holding g ∷ ds) seen = seen_head ds seen

pub once-head : (v : List Item) (seen : List ℕ) (sort p : ℕ) (ds : List Decl) (js : List Item) → OnceAll v seen (head_items sort p ds ++ js) → OnceHead v seen p ds × OnceAll v (seen_head ds seen) js
unfolding head_items OnceHead OnceAll seen_head
once-head v seen sort p [] js o = (tt, o)
once-head v seen sort p (declare x ∷ ds) js o = let t = once-head v (x.name ∷ seen) sort (suc p) ds js o.1 in ((o.0, t.0), t.1)
once-head v seen sort p (holding g ∷ ds) js o = once-head v seen sort (suc p) ds js o

pub once-items : (v : List Item) (seen : List ℕ) (p : ℕ) (is : Items) → OnceAll v seen (label_items p is) → OnceItems v seen p is
unfolding label_items OnceItems OnceAll
once-items v seen p no_item o = tt
once-items v seen p (label a is) o = (o.0, once-items v (a ∷ seen) (suc p) is o.1)
once-items v seen p (item s is) o = once-items v seen (p + size_s s) is o

-- the order of the names before does not matter
pub once-seen : (v : List Item) (seen before : List ℕ) (p : ℕ) (is : Items) → ((a : ℕ) → among a seen ≡ among a before) → OnceItems v seen p is → OnceItems v before p is
unfolding OnceItems among
once-seen v seen before p no_item h o = tt
once-seen v seen before p (label a is) h o = (o.0 ∙ rw (h a), once-seen v (a ∷ seen) (a ∷ before) (suc p) is (λ b. ap (λ (x : Bool). eqb b a || x) (h b)) o.1)
once-seen v seen before p (item s is) h o = once-seen v seen before (p + size_s s) is h o

or-shift : (x y z : Bool) → (x || (y || z)) ≡ ((y || x) || z)
or-shift true true z = refl
or-shift true false z = refl
or-shift false true z = refl
or-shift false false z = refl

among-seen : (a : ℕ) (ds : List Decl) (seen : List ℕ) → among a (seen_head ds seen) ≡ (among a (names_head ds) || among a seen)
unfolding among seen_head names_head
among-seen a [] seen = refl
among-seen a (declare x ∷ ds) seen = among-seen a ds (x.name ∷ seen) ∙ or-shift (among a (names_head ds)) (eqb a x.name) (among a seen)
among-seen a (holding g ∷ ds) seen = among-seen a ds seen

pub seen-names : (a : ℕ) (ds : List Decl) → among a (seen_head ds []) ≡ among a (names_head ds)
unfolding among
seen-names a ds = among-seen a ds [] ∙ or-false (among a (names_head ds))

-- ── the faults of a head ──
class-found : (l : List ℕ) (p : ℕ) (f : Found) (g : names.Found) → Agrees l f g → class_of f p ≡ named g class_sort p
class-found l p Nothing nowhere h = refl
class-found l p Nothing (found t b) h = absurd h
class-found l p (Def s n q w) nowhere h = absurd h
class-found l p (Def s n q w) (found (is_variable t) b) h = rw h.1.0
class-found l p (Def s n q w) (found is_label b) h = rw h.1
class-found l p (Def s n q w) (found (is_class ts) b) h = rw h.1.0
class-found l p (Def s n q w) (found (is_field c t) b) h = rw (ne_eqb s 6 (λ z. omega (arith, h.1.0)))
class-found l p (Def s n q w) (found (is_procedure ts us) b) h = rw h.1.0
class-found l p (Def s n q w) (found is_control b) h = rw h.1.0

pub class-small : (a c : ℕ) → in_layout (entry 10 a (pos (65536 + c))) ≡ true → c < 65536
unfolding in_layout
class-small a c h =
    let e : 65536 + c - 65536 ≡ c = omega arith in
    go (leb (65536 + c) 131071) refl
    (rw (ne_eqb (65536 + c) 1 (λ z. omega arith), ne_eqb (65536 + c) 2 (λ z. omega arith), ne_eqb (65536 + c) 3 (λ z. omega arith), le-leb 65536 (65536 + c) (omega arith), e) at h)
  where
    go : (b : Bool) → leb (65536 + c) 131071 ≡ b → is_some {A = Ty} (If leb (65536 + c) 131071 then some (reference c) else none) ≡ true → c < 65536
    go true e k = omega (arith, leb-true (65536 + c) 131071 e)
    go false e k = clash (let z : false ≡ true = rw e at k in cc)

module _ {l : List ℕ} (legible : Legible l) {v : List Item} {ss : List Scope} (see : Sees l v ss) where
  class-flaw : (t : Ty) (p : ℕ) → (c : ℕ) → t ≡ reference c → c < 65536 → class_flaw v (ty_code t) p ≡ type_faults ss t p
  class-flaw t p c e h =
      let k : 65536 + c - 65536 ≡ c = omega arith in
      rw (e, le-ltb (65536 + c) 65536 (omega arith), k) (class-found l p (find c v) (lookup c ss) (see.sees c h))

  type-flaw : (x : Typed) (p : ℕ) (us : List Entry) → Stands (entries_of l) p (flat_typed x ∷ us) → (t : Ty) → x.type ≡ t → class_flaw v (ty_code t) p ≡ type_faults ss t p
  unfolding flat_typed
  type-flaw x p us h integer e = refl
  type-flaw x p us h logical e = refl
  type-flaw x p us h bits e = refl
  type-flaw x p us h (reference c) e = class-flaw (reference c) p c refl (class-small x.name c (rw e at (legible.layout p (flat_typed x) us h)))

  pub head-faults : (p : ℕ) (ds : List Decl) (seen : List ℕ) → Stands (entries_of l) p (map flat_decl ds) → OnceHead v seen p ds → head_flaws l v p (length ds) ≡ faults_head ss seen p ds
  unfolding head_flaws faults_head faults_typed OnceHead flat_decl flat_typed
  head-faults p [] seen h o = refl
  head-faults p (declare x ∷ ds) seen h o =
      let f = fields l p (flat_typed x) _ h in
      let t = head-faults (suc p) ds (x.name ∷ seen) (rw (add-one p) at (stands-tail _ _ h)) o.1 in
      rw (decl-is l v p f.kind, f.a, number-here legible (ty_code x.type) f refl, add-one p, t, o.0, type-flaw x p _ h x.type refl, append-nil (type_faults ss x.type p))
  head-faults p (holding g ∷ ds) seen h o =
      let f = fields l p _ _ h in
      let t = head-faults (suc p) ds seen (rw (add-one p) at (stands-tail _ _ h)) o in
      let k : ¬ (kind_at l p ≡ 10) = λ z. omega (arith, f.kind) in
      rw (decl-not l v p k, add-one p, t)

-- ── a block is entered ──
pub record Entered (l : List ℕ) (w : List Item) (ss : List Scope) (p : ℕ) (ds : List Decl) (is : Items) : Type 0 where
  pub sees : Sees l w ss
  pub head : OnceHead w [] p ds
  pub items : OnceItems w (names_head ds) (p + length ds) is

-- what the pass over a block asks, and how much it pushes
pub record Enters (l : List ℕ) (p : ℕ) (ds : List Decl) (is : Items) : Type 0 where
  pub within : 8 * (p + length ds) ≤ length l
  pub reach : Reach l (p + length ds) (count_items is)
  pub least : length (block_items l p (length ds) (count_items is)) ≤ length ds + labels is

module _ {l : List ℕ} (legible : Legible l) (p : ℕ) (ds : List Decl) (is : Items) (h : Stands (entries_of l) p (map flat_decl ds ++ flat_items is)) where
  pub heads-stand : Stands (entries_of l) p (map flat_decl ds)
  heads-stand = stands-left (map flat_decl ds) (flat_items is) h

  pub items-stand : Stands (entries_of l) (p + length ds) (flat_items is)
  items-stand = rw (length-map flat_decl ds) at (stands-right (map flat_decl ds) (flat_items is) h)

  pub block-items : block_items l p (length ds) (count_items is) ≡ head_items 4 p ds ++ label_items (p + length ds) is
  block-items = rw (head-items legible 4 p ds heads-stand, (label-items legible (p + length ds) is items-stand).1)

  pub enters : 8 * (p + length ds) ≤ length l → Enters l p ds is
  enters w =
      record {
        within = w;
        reach = (label-items legible (p + length ds) is items-stand).0;
        least = omega (arith, ap length block-items, length-append (head_items 4 p ds) (label_items (p + length ds) is), length-heads 4 p ds, length-labels (p + length ds) is);
      }

  pub small : Small (block_items l p (length ds) (count_items is))
  small = small-append (items_at 4 l p (length ds)) (labels_from l (p + length ds) (count_items is)) (items-small legible 4 p (length ds)) (labels-small legible (p + length ds) (count_items is))

  pub matches : Matches l (head_items 4 p ds ++ label_items (p + length ds) is) (defines_head ds ++ defines_items is)
  matches = matches-append l (head_items 4 p ds) (label_items (p + length ds) is) (defines_head ds) (defines_items is) (head-matches l p ds) (label-matches l (p + length ds) is)

-- The variables of a head and the labels of a block: the items that are pushed for them stand for what the definition of the code finds.
use Rattle.std.proofs.Math.Path.{◌≡◌, refl}
use Rattle.std.proofs.Common.{ap, sym, ◌∙◌, subst, add-zero, add-one, eqb-true, eq-eqb}
use Rattle.std.specs.Prelude.{Bool, ℕ, suc, ◌+◌, ◌≤◌, ◌<◌, length}
use Rattle.std.proofs.Math.Bool.{true, false}
use mathlib.Core.List.{List, [], ◌∷◌, ◌++◌, map}
use Rattle.std.proofs.Math.Option.{some}
use native.Mathlib.Omega.{arith}
use Rattle.std.proofs.Math.Dec.{eqb}
use Rattle.std.proofs.Math.ListN.{get_or}
use Rattle.language.specs.Program.{flat_typed, flat_decl}
use Rattle.logic.specs.Lists.{among}
use Rattle.logic.specs.Choice.{If◌then◌else◌}
use Rattle.values.specs.Types.{Ty, integer, logical, bits, reference, ty_code, ty_byte}
use Rattle.language.specs.Tree.{Typed, Decl, declare, holding, Items, no_item, label, item, Global}
use Rattle.language.specs.Table.{Entry}
use Rattle.language.specs.Names.{is_variable, is_label, is_class, defines_typed, defines_head, defines_items, Scope, block_of, expression_of, nowhere, found, first_of, across, lookup}
use Rattle.language.specs.Names as names
use Rattle.language.specs.Faults.{size_s}
use Rattle.language_laws.specs.Lookup.{lookup-block, lookup-expression}
use Rattle.logic.specs.Tests.{eqb_comm, or_left}
use Rattle.language_laws.specs.Claims.{entries_of}
use Rattle.table_entries.specs.Stands.{Stands, stands-tail}
use Rattle.table_scopes.specs.Defines.{class-small, head_items, label_items}
use Rattle.table_scopes.specs.Sees.{Legible, Sees, Agrees}
use Rattle.bytecode.specs.Instructions.{Owner, own, root}
use Rattle.compile_code.specs.Code.{At, at, skip, after}
use Rattle.compile_code.specs.Compile.{Around, bound, global, held, scopes_of, kept, cell_of, passing, has_label, size_goto, label_at, code_s, ty_in, numbered, class_number, classes_of, class_names}
use Rattle.compile_code.specs.Encode.{owner_code, root_variables, parameter_cells}
use Rattle.compile_simulation.specs.Sizes.{len_s}
use Rattle.compile_names.specs.Good.{GoodTy, GoodHead}
use Rattle.compile_names.specs.Known.{Style, of_block, of_root, of_shared, Entered, entered-scopes, entered-past, bound-look, not-again, outer, uncross, nothing}
use Rattle.compile_symbols.specs.Numbers.{packed, number_of, numbers_from, cells_within}
use Rattle.table_scopes.specs.Environment.{Item, Found, Nothing, Def, find}
use Rattle.table_scopes.specs.EnvironmentLaws.{first_in}
use Rattle.compile_nodes.specs.Ends.{around_head, below_s, ends_items}
use Rattle.compile_nodes.specs.Knows.{Lies, Walk, MeansCell, MeansClass, Means, Known, Knows, target_of}
use Rattle.compile_scopes.specs.Lies.{lies-tail, lies-here, lies-right}
use Rattle.compile_scopes.specs.Lengths.{length-below}
use Rattle.compile_scopes.specs.Marks.{open_in}
use Rattle.compile_code.specs.Counts.{length-class-names}
use Rattle.compile_scopes.specs.Means.{Both, both-moved, byte-type, byte_small}

-- ── what lies around after a head, in each of its styles ──
unfoldable pub entering : Style → List Decl → ℕ → List Around → List Around
entering S [] n Γ = Γ
entering S (declare x ∷ ds) n Γ = entering S ds (suc n) (S.name x.name n ∷ Γ)
entering S (holding g ∷ ds) n Γ = entering S ds n (S.hold g Γ)

pub around-block : (ds : List Decl) (Γ : List Around) (p : At) → around_head bound ds Γ p ≡ entering of_block ds p.cell Γ
unfolding around_head entering
around-block [] Γ p = refl
around-block (declare x ∷ ds) Γ p = around-block ds (bound x.name p.cell ∷ Γ) (at (suc (suc p.address)) (suc p.cell))
around-block (holding g ∷ ds) Γ p = around-block ds (held g ∷ Γ) (skip 1 p)

pub around-root : (ds : List Decl) (Γ : List Around) (p : At) → around_head (global own) ds Γ p ≡ entering of_root ds p.cell Γ
unfolding around_head entering
around-root [] Γ p = refl
around-root (declare x ∷ ds) Γ p = around-root ds (global own x.name p.cell ∷ Γ) (at (suc (suc p.address)) (suc p.cell))
around-root (holding g ∷ ds) Γ p = around-root ds (held g ∷ Γ) (skip 1 p)

pub around-shared : (ds : List Decl) (n : ℕ) (Γ : List Around) → root_variables ds n Γ ≡ entering of_shared ds n Γ
unfolding root_variables entering
around-shared [] n Γ = refl
around-shared (declare x ∷ ds) n Γ = around-shared ds (suc n) (global root x.name n ∷ Γ)
around-shared (holding g ∷ ds) n Γ = around-shared ds n Γ

abbrev pub Anything : Owner → ℕ → Ty → Type 0
Anything o c t = Unit {0}

module _ (S : Style) where
  entered : (ds : List Decl) (n : ℕ) (Γ : List Around) → Entered Anything S ds Γ (entering S ds n Γ)
  unfolding Entered entering
  entered [] n Γ = refl
  entered (declare x ∷ ds) n Γ = (n, tt, entered ds (suc n) (S.name x.name n ∷ Γ))
  entered (holding g ∷ ds) n Γ = entered ds n (S.hold g Γ)

  pub scopes-entering : (ds : List Decl) (n : ℕ) (Γ : List Around) → scopes_of (entering S ds n Γ) ≡ scopes_of Γ
  scopes-entering ds n Γ = entered-scopes Anything S ds Γ (entering S ds n Γ) (entered ds n Γ)

  pub past-entering : (a : ℕ) (ds : List Decl) (n : ℕ) (Γ : List Around) → first_of a (defines_head ds) ≡ nowhere → S.look a (entering S ds n Γ) ≡ S.look a Γ
  past-entering a ds n Γ h = entered-past Anything S ds Γ (entering S ds n Γ) a (entered ds n Γ) h

  -- the variable b, declared before ds, which do not declare it again
  pub new-entering : (a b c : ℕ) (ds : List Decl) (n : ℕ) (Γ : List Around) (ss : List Scope) (seen : List ℕ)
      → eqb b a ≡ true → GoodHead ss (b ∷ seen) ds → S.look a (entering S ds n (S.name b c ∷ Γ)) ≡ some (kept S.owner c)
  unfolding among
  new-entering a b c ds n Γ ss seen e g =
      let new : among a (b ∷ seen) ≡ true = or_left (eqb a b) (among a seen) (eq-eqb a b (sym (eqb-true b a e))) in
      past-entering a ds n (S.name b c ∷ Γ) (not-again a ss (b ∷ seen) ds g new) ∙ S.look-name a b c Γ ∙ rw e

-- ── the types of a head have bytes ──

unfoldable pub Bytes : List Global → List Decl → Type 0
Bytes gs [] = Unit {0}
Bytes gs (declare x ∷ ds) = (ty_byte (ty_in gs x.type) < 256) × Bytes gs ds
Bytes gs (holding g ∷ ds) = Bytes gs ds

-- where each class in sight has a number
abbrev pub Classes : List Global → List Scope → Type 0
Classes gs ss = (c : ℕ) (ts : List Ty) (w : Bool) → c < 65536 → lookup c ss ≡ found (is_class ts) w → class_number gs c < 240

module _ {l : List ℕ} (legible : Legible l) (gs : List Global) (ss : List Scope) (classes : Classes gs ss) where
  byte_of : (x : Typed) (p : ℕ) (us : List Entry) → Stands (entries_of l) p (flat_typed x ∷ us) → (t : Ty) → x.type ≡ t → GoodTy ss t → ty_byte (ty_in gs t) < 256
  unfolding flat_typed
  byte_of x p us h integer e g = omega arith
  byte_of x p us h logical e g = omega arith
  byte_of x p us h bits e g = omega arith
  byte_of x p us h (reference c) e g =
      let z = classes c g.0 g.1.0 (class-small x.name c (rw e at (legible.layout p (flat_typed x) us h))) g.1.1 in
      omega arith

  pub bytes-head : (p : ℕ) (seen : List ℕ) (ds : List Decl) → Stands (entries_of l) p (map flat_decl ds) → GoodHead ss seen ds → Bytes gs ds
  unfolding GoodHead Bytes flat_decl
  bytes-head p seen [] h g = tt
  bytes-head p seen (declare x ∷ ds) h g = (byte_of x p (map flat_decl ds) h x.type refl g.1, bytes-head (p + 1) (x.name ∷ seen) ds (stands-tail _ _ h) g.2)
  bytes-head p seen (holding q ∷ ds) h g = bytes-head (p + 1) seen ds (stands-tail _ _ h) g

-- where there are few classes
pub bytes-typed : (gs : List Global) → length (classes_of gs) ≤ 16 → (xs : List Typed) → Bytes gs (map declare xs)
unfolding Bytes
bytes-typed gs h [] = tt
bytes-typed gs h (x ∷ xs) = (byte_small (class_names (classes_of gs)) x.type (omega (arith, length-class-names (classes_of gs))), bytes-typed gs h xs)

pub classes-known : {W : Walk} {l : List ℕ} {v : List Item} {Γ : List Around} → Sees l v (scopes_of Γ) → Knows W v Γ → Classes W.globals (scopes_of Γ)
classes-known {W} {l} {v} {Γ} s k c ts w h e = go (find c v) (lookup c (scopes_of Γ)) e (s.sees c h) (k.knows c h)
  where
    go : (f : Found) (x : names.Found) → x ≡ found (is_class ts) w → Agrees l f x → Known W Γ c f x → class_number W.globals c < 240
    go Nothing nowhere z a b = nothing (is_class ts) w z
    go Nothing (found t u) z a b = absurd a
    go (Def t n q u) nowhere z a b = absurd a
    go (Def t n q u) (found i r) z a b = let y : i ≡ is_class ts = cc in let m : MeansClass W c q = subst (λ j. Means W Γ c q j) y b in m.small

-- a head defines no class
no-class : (c : ℕ) (ds : List Decl) (ts : List Ty) (w : Bool) → first_of c (defines_head ds) ≡ found (is_class ts) w → ⊥
unfolding first_of defines_head
no-class c [] ts w h = nothing (is_class ts) w h
no-class c (declare x ∷ ds) ts w h = pick (eqb x.name c) h (no-class c ds ts w)
  where
    pick : (t : Bool) → (If t then found (is_variable x.type) false else first_of c (defines_head ds)) ≡ found (is_class ts) w → (first_of c (defines_head ds) ≡ found (is_class ts) w → ⊥) → ⊥
    pick true h f = let z : ◌≡◌ {A = ℕ} 0 1 = cc h in omega arith
    pick false h f = f h
no-class c (holding g ∷ ds) ts w h = no-class c ds ts w h

pub classes-block : (gs : List Global) (ds : List Decl) (is : Items) (ss : List Scope) → Classes gs ss → Classes gs (block_of ds is ∷ ss)
classes-block gs ds is ss k c ts w h e =
    outer (defines_head ds) is c (is_class ts) w (lookup c ss) (λ q. q) (sym (lookup-block c (defines_head ds ++ defines_items is) ss) ∙ e) (class_number gs c < 240)
    (λ q. absurd (no-class c ds ts w q)) (λ n q. k c ts w h q)

pub classes-expression : (gs : List Global) (ds : List Decl) (is : Items) (ss : List Scope) → Classes gs ss → Classes gs (expression_of ds is ∷ ss)
classes-expression gs ds is ss k c ts w h e =
    outer (defines_head ds) is c (is_class ts) w (across (lookup c ss)) (λ q. q) (sym (lookup-expression c (defines_head ds ++ defines_items is) ss) ∙ e) (class_number gs c < 240)
    (λ q. absurd (no-class c ds ts w q))
    (λ n q. let u = uncross (lookup c ss) (is_class ts) w q in k c ts u.0 h u.1)

-- ── the variables of a head ──
pub number-typed : (cs : List ℕ) (o n : ℕ) (x : Typed) → number_of cs o n (flat_typed x) ≡ packed (ty_byte (numbered cs x.type)) o n
unfolding flat_typed
number-typed cs o n x = ap (λ t. packed t o n) (byte-type cs x.type)

module _ (W : Walk) (a : ℕ) where
  abbrev Names : List ℕ
  Names = class_names (classes_of W.globals)

  owned-here : (b : Bool) → (If b then 0 else 0) ≡ owner_code own
  owned-here true = refl
  owned-here false = refl

  pub cell-means : (Γ : List Around) (q n : ℕ) (x : Typed) → cell_of a Γ ≡ some (kept own n) → get_or W.known q 0 ≡ number_of Names 0 n (flat_typed x)
      → ty_byte (ty_in W.globals x.type) < 256 → n < 32 → MeansCell W Γ a q x.type
  cell-means Γ q n x f g t c = record {
    owner = own;
    cell = n;
    whose = 0;
    found = f;
    number = g ∙ number-typed Names 0 n x;
    owned = owned-here W.within;
    small-type = t;
    small-whose = omega arith;
    small-cell = omega arith;
  }

  pub head-means : (ds : List Decl) (p n : ℕ) (Γ : List Around) (ss : List Scope) (seen : List ℕ) → GoodHead ss seen ds → Bytes W.globals ds
      → Lies W.known p (numbers_from Names n (map flat_decl ds)) → n + cells_within (map flat_decl ds) ≤ 32
      → Both (λ q t. Means W (entering of_block ds n Γ) a q t) (first_in a (head_items 4 p ds)) (first_of a (defines_head ds))
  unfolding GoodHead Bytes numbers_from cells_within flat_decl flat_typed head_items defines_head first_in first_of entering
  head-means [] p n Γ ss seen g b k c = tt
  head-means (declare x ∷ ds) p n Γ ss seen g b k c =
      pick (eqb x.name a) refl
      (head-means ds (suc p) (suc n) (bound x.name n ∷ Γ) ss (x.name ∷ seen) g.2 b.1 (rw (add-one n) at (lies-tail _ _ k)) (omega arith))
    where
      pick : (t : Bool) → eqb x.name a ≡ t
          → Both (λ q t. Means W (entering of_block ds (suc n) (bound x.name n ∷ Γ)) a q t) (first_in a (head_items 4 (suc p) ds)) (first_of a (defines_head ds))
          → Both (λ q t. Means W (entering of_block ds (suc n) (bound x.name n ∷ Γ)) a q t)
          (If t then Def 4 (ty_code x.type) p false else first_in a (head_items 4 (suc p) ds)) (If t then found (is_variable x.type) false else first_of a (defines_head ds))
      pick true e r = cell-means (entering of_block ds (suc n) (bound x.name n ∷ Γ)) p n x (new-entering of_block a x.name n ds (suc n) Γ ss seen e g.2) (lies-here _ _ k) b.0 (omega arith)
      pick false e r = r
  head-means (holding q ∷ ds) p n Γ ss seen g b k c = head-means ds (suc p) n (held q ∷ Γ) ss seen g b (rw (add-zero n) at (lies-tail _ _ k)) (omega arith)

  -- parameters
  pub parameters-mean : (xs : List Typed) (p n : ℕ) (Γ : List Around) → Bytes W.globals (map declare xs)
      → Lies W.known p (numbers_from Names n (map flat_typed xs)) → n + length xs ≤ 32
      → Both (λ q t. Means W (parameter_cells xs n Γ) a q t) (first_in a (head_items 4 p (map declare xs))) (first_of a (defines_typed xs))
  unfolding Bytes numbers_from flat_typed head_items defines_typed first_in first_of parameter_cells
  parameters-mean [] p n Γ b k c = tt
  parameters-mean (x ∷ xs) p n Γ b k c = pick (eqb x.name a) refl (parameters-mean xs (suc p) (suc n) Γ b.1 (rw (add-one n) at (lies-tail _ _ k)) (omega arith))
    where
      look : (t : Bool) → eqb x.name a ≡ t → cell_of a (bound x.name n ∷ parameter_cells xs (suc n) Γ) ≡ (If t then some (kept own n) else cell_of a (parameter_cells xs (suc n) Γ))
      look t e = bound-look a x.name n (parameter_cells xs (suc n) Γ) ∙ rw e

      pick : (t : Bool) → eqb x.name a ≡ t
          → Both (λ q t. Means W (parameter_cells xs (suc n) Γ) a q t) (first_in a (head_items 4 (suc p) (map declare xs))) (first_of a (defines_typed xs))
          → Both (λ q t. Means W (bound x.name n ∷ parameter_cells xs (suc n) Γ) a q t)
          (If t then Def 4 (ty_code x.type) p false else first_in a (head_items 4 (suc p) (map declare xs))) (If t then found (is_variable x.type) false else first_of a (defines_typed xs))
      pick true e r = cell-means (bound x.name n ∷ parameter_cells xs (suc n) Γ) p n x (look true e) (lies-here _ _ k) b.0 (omega arith)
      pick false e r = both-moved W (parameter_cells xs (suc n) Γ) (bound x.name n ∷ parameter_cells xs (suc n) Γ) a (first_in a (head_items 4 (suc p) (map declare xs)))
          (first_of a (defines_typed xs)) (look false e) r

  pub past-parameters : (xs : List Typed) (n : ℕ) (Γ : List Around) → first_of a (defines_typed xs) ≡ nowhere → cell_of a (parameter_cells xs n Γ) ≡ cell_of a Γ
  unfolding defines_typed first_of parameter_cells
  past-parameters [] n Γ h = refl
  past-parameters (x ∷ xs) n Γ h = bound-look a x.name n (parameter_cells xs (suc n) Γ) ∙ pick (eqb x.name a) h (λ k. past-parameters xs (suc n) Γ k)
    where
      pick : (b : Bool) → (If b then found (is_variable x.type) false else first_of a (defines_typed xs)) ≡ nowhere
          → (first_of a (defines_typed xs) ≡ nowhere → cell_of a (parameter_cells xs (suc n) Γ) ≡ cell_of a Γ)
          → (If b then some (kept own n) else cell_of a (parameter_cells xs (suc n) Γ)) ≡ cell_of a Γ
      pick true k f = nothing (is_variable x.type) false (sym k)
      pick false k f = f k

  -- labels
  pub labels-mean : (p : ℕ) (is : Items) (Γ : List Around) → Both (λ q t. Means W Γ a q t) (first_in a (label_items p is)) (first_of a (defines_items is))
  unfolding label_items defines_items first_in first_of
  labels-mean p no_item Γ = tt
  labels-mean p (label b is) Γ = pick (eqb b a) (labels-mean (suc p) is Γ)
    where
      pick : (t : Bool) → Both (λ q t. Means W Γ a q t) (first_in a (label_items (suc p) is)) (first_of a (defines_items is))
          → Both (λ q t. Means W Γ a q t) (If t then Def 5 0 p false else first_in a (label_items (suc p) is)) (If t then found is_label false else first_of a (defines_items is))
      pick true r = tt
      pick false r = r
  labels-mean p (item s is) Γ = labels-mean (p + size_s s) is Γ

-- ── a goto within the block ──
abbrev pub is_def : Found → Bool
is_def Nothing = false
is_def (Def s n q w) = true

module _ (a : ℕ) where
  pub has_first : (p : ℕ) (is : Items) → has_label a is ≡ is_def (first_in a (label_items p is))
  unfolding has_label label_items first_in
  has_first p no_item = refl
  has_first p (label b is) = rw (eqb_comm a b) (pick (eqb b a) (has_first (suc p) is))
    where
      pick : (t : Bool) → has_label a is ≡ is_def (first_in a (label_items (suc p) is)) → (If t then true else has_label a is) ≡ is_def (If t then Def 5 0 p false else first_in a (label_items (suc p) is))
      pick true e = refl
      pick false e = e
  has_first p (item s is) = has_first (p + size_s s) is

  -- the end of a label's entry is the label's address
  pub label-aim : (gs : List Global) (aims : List ℕ) (is : Items) (p : ℕ) (Γ : List Around) (st : List Ty) (x : At) {t n q : ℕ} {w : Bool}
      → Lies aims p (ends_items gs is Γ st x) → first_in a (label_items p is) ≡ Def t n q w → get_or aims q 0 ≡ label_at is (scopes_of Γ) (passing Γ) x.address a
  unfolding ends_items label_items first_in label_at
  label-aim gs aims no_item p Γ st x k e = let z : ◌≡◌ {A = ℕ} 0 1 = cc in absurd (omega arith)
  label-aim gs aims (label b is) p Γ st x {t} {n} {q} {w} k e =
      rw (eqb_comm a b) (pick (eqb b a) e (λ z. label-aim gs aims is (suc p) Γ st x (lies-tail _ _ k) z))
    where
      pick : (u : Bool) → (If u then Def 5 0 p false else first_in a (label_items (suc p) is)) ≡ Def t n q w
          → (first_in a (label_items (suc p) is) ≡ Def t n q w → get_or aims q 0 ≡ label_at is (scopes_of Γ) (passing Γ) x.address a)
          → get_or aims q 0 ≡ (If u then x.address else label_at is (scopes_of Γ) (passing Γ) x.address a)
      pick true z f = let y : p ≡ q = cc in rw y at (lies-here _ _ k)
      pick false z f = f z
  label-aim gs aims (item s is) p Γ st x k e =
      let y = after (code_s gs s Γ st x) x in
      rw (← len_s gs s Γ st x) (label-aim gs aims is (p + size_s s) Γ st y (rw (length-below gs s Γ st x) at (lies-right (y.address ∷ below_s gs s Γ st x) (ends_items gs is Γ st y) k)) e)

  -- past a head: a release for each of its holds
  pub size-head : (ds : List Decl) (Γ : List Around) (p : At) → size_goto (passing (around_head bound ds Γ p)) a ≡ open_in ds + size_goto (passing Γ) a
  unfolding around_head passing size_goto open_in
  size-head [] Γ p = omega arith
  size-head (declare x ∷ ds) Γ p = omega (arith, size-head ds (bound x.name p.cell ∷ Γ) (at (suc (suc p.address)) (suc p.cell)))
  size-head (holding g ∷ ds) Γ p = omega (arith, size-head ds (held g ∷ Γ) (skip 1 p))

  pub target-head : (ds : List Decl) (Γ : List Around) (p : At) → target_of (around_head bound ds Γ p) a ≡ target_of Γ a
  unfolding around_head target_of
  target-head [] Γ p = refl
  target-head (declare x ∷ ds) Γ p = target-head ds (bound x.name p.cell ∷ Γ) (at (suc (suc p.address)) (suc p.cell))
  target-head (holding g ∷ ds) Γ p = target-head ds (held g ∷ Γ) (skip 1 p)

  pub head-sort : (s p : ℕ) (ds : List Decl) {t n q : ℕ} {w : Bool} → first_in a (head_items s p ds) ≡ Def t n q w → s ≡ t
  unfolding head_items first_in
  head-sort s p [] e = let z : ◌≡◌ {A = ℕ} 0 1 = cc in absurd (omega arith)
  head-sort s p (declare x ∷ ds) {t} {n} {q} {w} e = pick (eqb x.name a) e (λ z. head-sort s (suc p) ds z)
    where
      pick : (u : Bool) → (If u then Def s (ty_code x.type) p false else first_in a (head_items s (suc p) ds)) ≡ Def t n q w → (first_in a (head_items s (suc p) ds) ≡ Def t n q w → s ≡ t) → s ≡ t
      pick true z f = cc
      pick false z f = f z
  head-sort s p (holding g ∷ ds) e = head-sort s (suc p) ds e

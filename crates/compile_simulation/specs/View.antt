-- What the tree sees of a machine: its store as a function of the machine's data and of what lies around a part.
use Rattle.std.specs.Prelude.{Bool, ℕ, zero, suc, ◌<◌, ◌≤◌, pos, set as put}
use Rattle.std.proofs.Math.Bool.{true, false}
use Rattle.std.proofs.Math.Path.{◌≡◌, refl, ap, ap₂, subst}
use Rattle.std.proofs.Common.{sym, ◌∙◌, arith}
use mathlib.Core.List.{List, [], ◌∷◌, map}
use Rattle.std.proofs.Math.Option.{Option, none, some}
use Rattle.std.proofs.Math.Dec.{T, eqb, eqb→eq}
use Rattle.std.proofs.Math.ListN.{get_elem?}
use Rattle.logic.specs.Options.{is_some, or_else}
use Rattle.logic.specs.Choice.{If◌then◌else◌}
use Rattle.values.specs.Trace.{Item}
use Rattle.values.specs.Values.{Value, int, log, bit, ref, Cell, assigned}
use Rattle.language.specs.Tree.{Global}
use Rattle.language.specs.Execute.{Slot, slot, Store, with_blocks, with_root, cell_in, cell_of, put_in, put_of, value_of, assign_to, pair_up}
use Rattle.language.specs.Execute.{Made as TreeMade}
use Rattle.bytecode.specs.Instructions.{Owner, own, root}
use Rattle.bytecode.specs.Machine.{Made, Shared}
use Rattle.compile_code.specs.Compile.{Around, inside, outermost, bound, global, held, labels, kept, bound_at, global_at, or_cell, Class, classes_of}
use Rattle.compile_code.specs.Compile.{Cell as Kept, cell_of as kept_of}

-- ── the machine's data: what the ops of one activation change ──
pub record Data : Type 0 where
  pub shared : Shared
  pub cells : List Cell  -- of the activation at work
  pub lowest : List Cell  -- of the root, where that is another
  pub trace : List Item
  pub taken : ℕ

abbrev pub cell_at : List Cell → ℕ → Cell
cell_at [] c = assigned (int (pos 0))
cell_at (x ∷ xs) zero = x
cell_at (x ∷ xs) (suc c) = cell_at xs c

abbrev pub class_of : List Class → ℕ → Class
class_of [] k = record { name = 0; fields = [] }
class_of (c ∷ cs) zero = c
class_of (c ∷ cs) (suc k) = class_of cs k

-- a slot more in the innermost block
abbrev pub in_first : Slot → List (List Slot) → List (List Slot)
in_first s [] = (s ∷ []) ∷ []
in_first s (b ∷ bs) = (s ∷ b) ∷ bs

module _ (gs : List Global) where
  -- classes have names in the tree, numbers in the machine
  abbrev pub seen_v : Value → Value
  seen_v (int z) = int z
  seen_v (log b) = log b
  seen_v (bit n) = bit n
  seen_v (ref c r) = ref (class_of (classes_of gs) c).name r

  abbrev pub seen_c : Cell → Cell
  seen_c (assigned v) = assigned (seen_v v)

  abbrev pub seen_r : Made → TreeMade
  seen_r r = record { fields = pair_up (class_of (classes_of gs) r.class).fields (map seen_v r.fields) }

  unfoldable pub blocks_of : List Around → List Cell → List (List Slot)
  blocks_of [] cs = []
  blocks_of (inside s ∷ Γ) cs = [] ∷ blocks_of Γ cs
  blocks_of (outermost s ∷ Γ) cs = blocks_of Γ cs
  blocks_of (bound a c ∷ Γ) cs = in_first (slot a (seen_c (cell_at cs c))) (blocks_of Γ cs)
  blocks_of (global o a c ∷ Γ) cs = blocks_of Γ cs
  blocks_of (held g ∷ Γ) cs = blocks_of Γ cs
  blocks_of (labels is x ∷ Γ) cs = blocks_of Γ cs

  abbrev pub of_owner : Owner → List Cell → List Cell → List Cell
  of_owner own cs ls = cs
  of_owner root cs ls = ls

  unfoldable pub roots_of : List Around → List Cell → List Cell → List Slot
  roots_of [] cs ls = []
  roots_of (inside s ∷ Γ) cs ls = roots_of Γ cs ls
  roots_of (outermost s ∷ Γ) cs ls = roots_of Γ cs ls
  roots_of (bound a c ∷ Γ) cs ls = roots_of Γ cs ls
  roots_of (global o a c ∷ Γ) cs ls = slot a (seen_c (cell_at (of_owner o cs ls) c)) ∷ roots_of Γ cs ls
  roots_of (held g ∷ Γ) cs ls = roots_of Γ cs ls
  roots_of (labels is x ∷ Γ) cs ls = roots_of Γ cs ls

  abbrev pub seen : List Around → Data → Store
  seen Γ D = record {
    root = roots_of Γ D.cells D.lowest;
    blocks = blocks_of Γ D.cells;
    records = map seen_r D.shared.records;
    trace = D.trace;
    taken = D.taken;
  }

  -- ── reading a variable ──
  abbrev pub cell_for : Option Kept → List Cell → List Cell → Option Cell
  cell_for none cs ls = none
  cell_for (some (kept o c)) cs ls = some (seen_c (cell_at (of_owner o cs ls) c))

  in-first : (a : ℕ) (s : Slot) (bs : List (List Slot)) → cell_of a (in_first s bs) ≡ (If eqb s.name a then some s.cell else cell_of a bs)
  unfolding cell_of cell_in
  in-first a s [] = go (eqb s.name a)
    where
      go : (b : Bool) → or_else (If b then some s.cell else none) none ≡ (If b then some s.cell else none)
      go true = refl
      go false = refl
  in-first a s (b ∷ bs) = go (eqb s.name a)
    where
      go : (t : Bool) → or_else (If t then some s.cell else cell_in a b) (cell_of a bs) ≡ (If t then some s.cell else or_else (cell_in a b) (cell_of a bs))
      go true = refl
      go false = refl

  chosen : (b : Bool) (o : Owner) (c : ℕ) (Γ : Option Kept) (x : Option Cell) (cs ls : List Cell) → x ≡ cell_for Γ cs ls
      → (If b then some (seen_c (cell_at (of_owner o cs ls) c)) else x) ≡ cell_for (If b then some (kept o c) else Γ) cs ls
  chosen true o c Γ x cs ls h = refl
  chosen false o c Γ x cs ls h = h

  pub in_blocks : (a : ℕ) (Γ : List Around) (cs ls : List Cell) → cell_of a (blocks_of Γ cs) ≡ cell_for (bound_at a Γ) cs ls
  unfolding blocks_of bound_at cell_of cell_in
  in_blocks a [] cs ls = refl
  in_blocks a (inside s ∷ Γ) cs ls = in_blocks a Γ cs ls
  in_blocks a (outermost s ∷ Γ) cs ls = in_blocks a Γ cs ls
  in_blocks a (bound b c ∷ Γ) cs ls = in-first a (slot b (seen_c (cell_at cs c))) (blocks_of Γ cs) ∙ chosen (eqb b a) own c (bound_at a Γ) (cell_of a (blocks_of Γ cs)) cs ls (in_blocks a Γ cs ls)
  in_blocks a (global o b c ∷ Γ) cs ls = in_blocks a Γ cs ls
  in_blocks a (held g ∷ Γ) cs ls = in_blocks a Γ cs ls
  in_blocks a (labels is x ∷ Γ) cs ls = in_blocks a Γ cs ls

  pub in-roots : (a : ℕ) (Γ : List Around) (cs ls : List Cell) → cell_in a (roots_of Γ cs ls) ≡ cell_for (global_at a Γ) cs ls
  unfolding roots_of global_at cell_in
  in-roots a [] cs ls = refl
  in-roots a (inside s ∷ Γ) cs ls = in-roots a Γ cs ls
  in-roots a (outermost s ∷ Γ) cs ls = in-roots a Γ cs ls
  in-roots a (bound b c ∷ Γ) cs ls = in-roots a Γ cs ls
  in-roots a (global o b c ∷ Γ) cs ls = chosen (eqb b a) o c (global_at a Γ) (cell_in a (roots_of Γ cs ls)) cs ls (in-roots a Γ cs ls)
  in-roots a (held g ∷ Γ) cs ls = in-roots a Γ cs ls
  in-roots a (labels is x ∷ Γ) cs ls = in-roots a Γ cs ls

  pub reads : (a : ℕ) (Γ : List Around) (D : Data) → value_of a (seen Γ D) ≡ cell_for (kept_of a Γ) D.cells D.lowest
  unfolding value_of
  reads a Γ D = ap₂ or_else (in_blocks a Γ D.cells D.lowest) (in-roots a Γ D.cells D.lowest) ∙ go (bound_at a Γ) (global_at a Γ)
    where
      go : (x y : Option Kept) → or_else (cell_for x D.cells D.lowest) (cell_for y D.cells D.lowest) ≡ cell_for (or_cell x y) D.cells D.lowest
      go none y = refl
      go (some (kept o c)) y = refl

-- ── writing a variable: no two have one cell ──
abbrev pub Differs : Owner → Owner → ℕ → ℕ → Type 0
Differs own own c d = c ≡ d → ⊥
Differs own root c d = Unit {0}
Differs root own c d = Unit {0}
Differs root root c d = c ≡ d → ⊥

unfoldable pub Apart : Owner → ℕ → List Around → Type 0
Apart o c [] = Unit {0}
Apart o c (inside s ∷ Γ) = Apart o c Γ
Apart o c (outermost s ∷ Γ) = Apart o c Γ
Apart o c (bound b d ∷ Γ) = Differs o own c d × Apart o c Γ
Apart o c (global q b d ∷ Γ) = Differs o q c d × Apart o c Γ
Apart o c (held g ∷ Γ) = Apart o c Γ
Apart o c (labels is x ∷ Γ) = Apart o c Γ

unfoldable pub Distinct : List Around → Type 0
Distinct [] = Unit {0}
Distinct (inside s ∷ Γ) = Distinct Γ
Distinct (outermost s ∷ Γ) = Distinct Γ
Distinct (bound b d ∷ Γ) = Apart own d Γ × Distinct Γ
Distinct (global q b d ∷ Γ) = Apart q d Γ × Distinct Γ
Distinct (held g ∷ Γ) = Distinct Γ
Distinct (labels is x ∷ Γ) = Distinct Γ

-- own cells are those below a number
unfoldable pub Below : ℕ → List Around → Type 0
Below n [] = Unit {0}
Below n (inside s ∷ Γ) = Below n Γ
Below n (outermost s ∷ Γ) = Below n Γ
Below n (bound b d ∷ Γ) = (d < n) × Below n Γ
Below n (global own b d ∷ Γ) = (d < n) × Below n Γ
Below n (global root b d ∷ Γ) = Below n Γ
Below n (held g ∷ Γ) = Below n Γ
Below n (labels is x ∷ Γ) = Below n Γ

pub below_apart : (n : ℕ) (Γ : List Around) → Below n Γ → Apart own n Γ
unfolding Below Apart
below_apart n [] h = tt
below_apart n (inside s ∷ Γ) h = below_apart n Γ h
below_apart n (outermost s ∷ Γ) h = below_apart n Γ h
below_apart n (bound b d ∷ Γ) h = let q = h.0 in ((λ e. omega arith), below_apart n Γ h.1)
below_apart n (global own b d ∷ Γ) h = let q = h.0 in ((λ e. omega arith), below_apart n Γ h.1)
below_apart n (global root b d ∷ Γ) h = (tt, below_apart n Γ h)
below_apart n (held g ∷ Γ) h = below_apart n Γ h
below_apart n (labels is x ∷ Γ) h = below_apart n Γ h

pub below_more : (n k : ℕ) (Γ : List Around) → n ≤ k → Below n Γ → Below k Γ
unfolding Below
below_more n k [] p h = tt
below_more n k (inside s ∷ Γ) p h = below_more n k Γ p h
below_more n k (outermost s ∷ Γ) p h = below_more n k Γ p h
below_more n k (bound b d ∷ Γ) p h = let q = h.0 in (omega arith, below_more n k Γ p h.1)
below_more n k (global own b d ∷ Γ) p h = let q = h.0 in (omega arith, below_more n k Γ p h.1)
below_more n k (global root b d ∷ Γ) p h = below_more n k Γ p h
below_more n k (held g ∷ Γ) p h = below_more n k Γ p h
below_more n k (labels is x ∷ Γ) p h = below_more n k Γ p h

pub put_same : (cs : List Cell) (c : ℕ) (x y : Cell) → get_elem? cs c ≡ some y → cell_at (put cs c x) c ≡ x
put_same [] c x y h = let z : ◌≡◌ {A = ℕ} 0 1 = cc h in absurd (omega arith)
put_same (w ∷ cs) zero x y h = refl
put_same (w ∷ cs) (suc c) x y h = put_same cs c x y h

pub put_other : (cs : List Cell) (c d : ℕ) (x : Cell) → (c ≡ d → ⊥) → cell_at (put cs c x) d ≡ cell_at cs d
put_other [] c d x h = refl
put_other (w ∷ cs) zero zero x h = absurd (h refl)
put_other (w ∷ cs) zero (suc d) x h = refl
put_other (w ∷ cs) (suc c) zero x h = refl
put_other (w ∷ cs) (suc c) (suc d) x h = put_other cs c d x (λ e. h (ap suc e))

pub found_at : (cs : List Cell) (c : ℕ) (x : Cell) → get_elem? cs c ≡ some x → cell_at cs c ≡ x
found_at [] c x h = let z : ◌≡◌ {A = ℕ} 0 1 = cc h in absurd (omega arith)
found_at (w ∷ cs) zero x h = cc h
found_at (w ∷ cs) (suc c) x h = found_at cs c x h

-- a cell of an owner, written
abbrev pub own_put : Owner → ℕ → Cell → List Cell → List Cell
own_put own c x cs = put cs c x
own_put root c x cs = cs

abbrev pub root_put : Owner → ℕ → Cell → List Cell → List Cell
root_put own c x ls = ls
root_put root c x ls = put ls c x

module _ (gs : List Global) (o : Owner) (c : ℕ) (x : Cell) (cs ls : List Cell) where
  pub apart-blocks : (Γ : List Around) → Apart o c Γ → blocks_of gs Γ (own_put o c x cs) ≡ blocks_of gs Γ cs
  unfolding Apart blocks_of
  apart-blocks [] h = refl
  apart-blocks (inside s ∷ Γ) h = ap (λ z. [] ∷ z) (apart-blocks Γ h)
  apart-blocks (outermost s ∷ Γ) h = apart-blocks Γ h
  apart-blocks (bound b d ∷ Γ) h = ap₂ (λ y z. in_first (slot b (seen_c gs y)) z) (go o h.0) (apart-blocks Γ h.1)
    where
      go : (p : Owner) → Differs p own c d → cell_at (own_put p c x cs) d ≡ cell_at cs d
      go own e = put_other cs c d x e
      go root e = refl
  apart-blocks (global q b d ∷ Γ) h = apart-blocks Γ h.1
  apart-blocks (held g ∷ Γ) h = apart-blocks Γ h
  apart-blocks (labels is y ∷ Γ) h = apart-blocks Γ h

  pub apart-roots : (Γ : List Around) → Apart o c Γ → roots_of gs Γ (own_put o c x cs) (root_put o c x ls) ≡ roots_of gs Γ cs ls
  unfolding Apart roots_of
  apart-roots [] h = refl
  apart-roots (inside s ∷ Γ) h = apart-roots Γ h
  apart-roots (outermost s ∷ Γ) h = apart-roots Γ h
  apart-roots (bound b d ∷ Γ) h = apart-roots Γ h.1
  apart-roots (global q b d ∷ Γ) h = ap₂ (λ y z. slot b (seen_c gs y) ∷ z) (go o q h.0) (apart-roots Γ h.1)
    where
      go : (p q : Owner) → Differs p q c d → cell_at (of_owner gs q (own_put p c x cs) (root_put p c x ls)) d ≡ cell_at (of_owner gs q cs ls) d
      go own own e = put_other cs c d x e
      go own root e = refl
      go root own e = refl
      go root root e = put_other ls c d x e
  apart-roots (held g ∷ Γ) h = apart-roots Γ h
  apart-roots (labels is y ∷ Γ) h = apart-roots Γ h

-- a cell that a name has is not apart
not-apart : (o : Owner) (c d : ℕ) → Differs o o d c → d ≡ c → ⊥
not-apart own c d h = h
not-apart root c d h = h

some_is : {A : Type 0} (x y : A) → some x ≡ some y → x ≡ y
some_is x y h = cc h

abbrev pub owner-of : Kept → Owner
owner-of (kept o c) = o

abbrev pub number_of : Kept → ℕ
number_of (kept o c) = c

pub bound-own : (a : ℕ) (Γ : List Around) (o : Owner) (c : ℕ) → bound_at a Γ ≡ some (kept o c) → o ≡ own
unfolding bound_at
bound-own a [] o c h = let z : ◌≡◌ {A = ℕ} 0 1 = cc h in absurd (omega arith)
bound-own a (inside s ∷ Γ) o c h = bound-own a Γ o c h
bound-own a (outermost s ∷ Γ) o c h = bound-own a Γ o c h
bound-own a (bound b d ∷ Γ) o c h = go (eqb b a) (bound-own a Γ o c) h
  where
    go : (t : Bool) → (bound_at a Γ ≡ some (kept o c) → o ≡ own) → (If t then some (kept own d) else bound_at a Γ) ≡ some (kept o c) → o ≡ own
    go true f e = ap owner-of (sym (some_is (kept own d) (kept o c) e))
    go false f e = f e
bound-own a (global q b d ∷ Γ) o c h = bound-own a Γ o c h
bound-own a (held g ∷ Γ) o c h = bound-own a Γ o c h
bound-own a (labels is x ∷ Γ) o c h = bound-own a Γ o c h

pub bound-apart : (a : ℕ) (Γ : List Around) (c d : ℕ) → bound_at a Γ ≡ some (kept own c) → Apart own d Γ → d ≡ c → ⊥
unfolding bound_at Apart
bound-apart a [] c d h p = let z : ◌≡◌ {A = ℕ} 0 1 = cc h in absurd (omega arith)
bound-apart a (inside s ∷ Γ) c d h p = bound-apart a Γ c d h p
bound-apart a (outermost s ∷ Γ) c d h p = bound-apart a Γ c d h p
bound-apart a (bound b e ∷ Γ) c d h p = go (eqb b a) (λ f. bound-apart a Γ c d f p.1) h
  where
    go : (t : Bool) → (bound_at a Γ ≡ some (kept own c) → d ≡ c → ⊥) → (If t then some (kept own e) else bound_at a Γ) ≡ some (kept own c) → d ≡ c → ⊥
    go true k f q = p.0 (q ∙ sym (ap number_of (some_is (kept own e) (kept own c) f)))
    go false k f q = k f q
bound-apart a (global q b e ∷ Γ) c d h p = bound-apart a Γ c d h p.1
bound-apart a (held g ∷ Γ) c d h p = bound-apart a Γ c d h p
bound-apart a (labels is x ∷ Γ) c d h p = bound-apart a Γ c d h p

-- a block's variable gets a value
module _ (gs : List Global) (a : ℕ) (u : Cell) where
  put_first : (s : Slot) (bs : List (List Slot)) → (eqb s.name a ≡ false) → put_of a u (in_first s bs) ≡ in_first s (put_of a u bs)
  unfolding put_of put_in cell_in
  put_first s [] e = rw e refl
  put_first s (b ∷ bs) e = rw e (go (is_some (cell_in a b)))
    where
      go : (t : Bool) → (If t then (s ∷ put_in a u b) ∷ bs else (s ∷ b) ∷ put_of a u bs) ≡ in_first s (If t then put_in a u b ∷ bs else b ∷ put_of a u bs)
      go true = refl
      go false = refl

  put-here : (s : Slot) (bs : List (List Slot)) → (eqb s.name a ≡ true) → put_of a u (in_first s bs) ≡ in_first (slot a u) bs
  unfolding put_of put_in cell_in
  put-here s [] e = rw e refl
  put-here s (b ∷ bs) e = rw e refl

  -- the whole of an assignment to a block's variable, and to one of the root's
  wrote-block : (Γ : List Around) (c : ℕ) (v : Value) (y : Cell) (cs : List Cell) → u ≡ seen_c gs (assigned v) → bound_at a Γ ≡ some (kept own c) → Distinct Γ → get_elem? cs c ≡ some y
      → put_of a u (blocks_of gs Γ cs) ≡ blocks_of gs Γ (put cs c (assigned v))
  unfolding bound_at Distinct blocks_of put_of cell_in
  wrote-block [] c v y cs w h d g = let z : ◌≡◌ {A = ℕ} 0 1 = cc h in absurd (omega arith)
  wrote-block (inside s ∷ Γ) c v y cs w h d g = ap (λ z. [] ∷ z) (wrote-block Γ c v y cs w h d g)
  wrote-block (outermost s ∷ Γ) c v y cs w h d g = wrote-block Γ c v y cs w h d g
  wrote-block (bound b e ∷ Γ) c v y cs w h d g = go (eqb b a) (λ q. wrote-block Γ c v y cs w q d.1 g) refl h
    where
      go : (t : Bool) → (bound_at a Γ ≡ some (kept own c) → put_of a u (blocks_of gs Γ cs) ≡ blocks_of gs Γ (put cs c (assigned v))) → eqb b a ≡ t
          → (If t then some (kept own e) else bound_at a Γ) ≡ some (kept own c)
          → put_of a u (in_first (slot b (seen_c gs (cell_at cs e))) (blocks_of gs Γ cs)) ≡ in_first (slot b (seen_c gs (cell_at (put cs c (assigned v)) e))) (blocks_of gs Γ (put cs c (assigned v)))
      go true f t q =
          let same : e ≡ c = ap number_of (some_is (kept own e) (kept own c) q) in
          let name : b ≡ a = eqb→eq b a (subst T (sym t) tt) in
          put-here (slot b (seen_c gs (cell_at cs e))) (blocks_of gs Γ cs) t
          ∙ ap₂ in_first (ap₂ slot (sym name) (w ∙ ap (seen_c gs) (sym (subst (λ z. cell_at (put cs c (assigned v)) z ≡ assigned v) (sym same) (put_same cs c (assigned v) y g)))))
          (sym (apart-blocks gs own c (assigned v) cs cs Γ (subst (λ z. Apart own z Γ) same d.0)))
      go false f t q =
          put_first (slot b (seen_c gs (cell_at cs e))) (blocks_of gs Γ cs) t
          ∙ ap₂ in_first (ap (λ z. slot b (seen_c gs z)) (sym (put_other cs c e (assigned v) (λ r. bound-apart a Γ c e q d.0 (sym r)))))
          (f q)
  wrote-block (global q b e ∷ Γ) c v y cs w h d g = wrote-block Γ c v y cs w h d.1 g
  wrote-block (held k ∷ Γ) c v y cs w h d g = wrote-block Γ c v y cs w h d g
  wrote-block (labels is k ∷ Γ) c v y cs w h d g = wrote-block Γ c v y cs w h d g

  kept-roots : (Γ : List Around) (c : ℕ) (x : Cell) (cs ls : List Cell) → bound_at a Γ ≡ some (kept own c) → Distinct Γ → roots_of gs Γ (put cs c x) ls ≡ roots_of gs Γ cs ls
  unfolding bound_at Distinct roots_of
  kept-roots [] c x cs ls h d = refl
  kept-roots (inside s ∷ Γ) c x cs ls h d = kept-roots Γ c x cs ls h d
  kept-roots (outermost s ∷ Γ) c x cs ls h d = kept-roots Γ c x cs ls h d
  kept-roots (bound b e ∷ Γ) c x cs ls h d = go (eqb b a) (λ q. kept-roots Γ c x cs ls q d.1) h
    where
      go : (t : Bool) → (bound_at a Γ ≡ some (kept own c) → roots_of gs Γ (put cs c x) ls ≡ roots_of gs Γ cs ls)
          → (If t then some (kept own e) else bound_at a Γ) ≡ some (kept own c) → roots_of gs Γ (put cs c x) ls ≡ roots_of gs Γ cs ls
      go true f q = apart-roots gs own c x cs ls Γ (subst (λ z. Apart own z Γ) (ap number_of (some_is (kept own e) (kept own c) q)) d.0)
      go false f q = f q
  kept-roots (global own b e ∷ Γ) c x cs ls h d =
      ap₂ (λ y z. slot b (seen_c gs y) ∷ z) (put_other cs c e x (λ r. bound-apart a Γ c e h d.0 (sym r))) (kept-roots Γ c x cs ls h d.1)
  kept-roots (global root b e ∷ Γ) c x cs ls h d = ap (λ z. slot b (seen_c gs (cell_at ls e)) ∷ z) (kept-roots Γ c x cs ls h d.1)
  kept-roots (held k ∷ Γ) c x cs ls h d = kept-roots Γ c x cs ls h d
  kept-roots (labels is k ∷ Γ) c x cs ls h d = kept-roots Γ c x cs ls h d

-- ── a new variable ──
abbrev pub written : Owner → ℕ → Cell → Data → Data
written o c x D = record { shared = D.shared; cells = own_put o c x D.cells; lowest = root_put o c x D.lowest; trace = D.trace; taken = D.taken }

pub global-apart : (a : ℕ) (Γ : List Around) (o : Owner) (c d : ℕ) → global_at a Γ ≡ some (kept o c) → Apart o d Γ → d ≡ c → ⊥
unfolding global_at Apart
global-apart a [] o c d h p = let z : ◌≡◌ {A = ℕ} 0 1 = cc h in absurd (omega arith)
global-apart a (inside s ∷ Γ) o c d h p = global-apart a Γ o c d h p
global-apart a (outermost s ∷ Γ) o c d h p = global-apart a Γ o c d h p
global-apart a (bound b e ∷ Γ) o c d h p = global-apart a Γ o c d h p.1
global-apart a (global q b e ∷ Γ) o c d h p = go (eqb b a) (λ f. global-apart a Γ o c d f p.1) h
  where
    go : (t : Bool) → (global_at a Γ ≡ some (kept o c) → d ≡ c → ⊥) → (If t then some (kept q e) else global_at a Γ) ≡ some (kept o c) → d ≡ c → ⊥
    go true k f r =
        let z = some_is (kept q e) (kept o c) f in
        let u : Differs o o d e = subst (λ x. Differs o x d e) (ap owner-of z) p.0 in
        not-apart o e d u (r ∙ sym (ap number_of z))
    go false k f r = k f r
global-apart a (held g ∷ Γ) o c d h p = global-apart a Γ o c d h p
global-apart a (labels is x ∷ Γ) o c d h p = global-apart a Γ o c d h p

module _ (gs : List Global) (a : ℕ) (u : Cell) (o : Owner) (c : ℕ) (v : Value) (y : Cell) (cs ls : List Cell) (w : u ≡ seen_c gs (assigned v)) (g : get_elem? (of_owner gs o cs ls) c ≡ some y) where
  now : (q : Owner) → q ≡ o → cell_at (of_owner gs q (own_put o c (assigned v) cs) (root_put o c (assigned v) ls)) c ≡ assigned v
  now q e = subst (λ z. cell_at (of_owner gs z (own_put o c (assigned v) cs) (root_put o c (assigned v) ls)) c ≡ assigned v) (sym e) (go o g)
    where
      go : (p : Owner) → get_elem? (of_owner gs p cs ls) c ≡ some y → cell_at (of_owner gs p (own_put p c (assigned v) cs) (root_put p c (assigned v) ls)) c ≡ assigned v
      go own h = put_same cs c (assigned v) y h
      go root h = put_same ls c (assigned v) y h

  other : (q : Owner) (e : ℕ) → (o ≡ q → e ≡ c → ⊥) → cell_at (of_owner gs q (own_put o c (assigned v) cs) (root_put o c (assigned v) ls)) e ≡ cell_at (of_owner gs q cs ls) e
  other q e h = go o q h
    where
      go : (p q : Owner) → (p ≡ q → e ≡ c → ⊥) → cell_at (of_owner gs q (own_put p c (assigned v) cs) (root_put p c (assigned v) ls)) e ≡ cell_at (of_owner gs q cs ls) e
      go own own h = put_other cs c e (assigned v) (λ r. h refl (sym r))
      go own root h = refl
      go root own h = refl
      go root root h = put_other ls c e (assigned v) (λ r. h refl (sym r))

  pub wrote-root : (Γ : List Around) → global_at a Γ ≡ some (kept o c) → Distinct Γ
      → (put_in a u (roots_of gs Γ cs ls) ≡ roots_of gs Γ (own_put o c (assigned v) cs) (root_put o c (assigned v) ls)) × (blocks_of gs Γ (own_put o c (assigned v) cs) ≡ blocks_of gs Γ cs)
  unfolding global_at Distinct roots_of blocks_of put_in
  wrote-root [] h d = let z : ◌≡◌ {A = ℕ} 0 1 = cc h in absurd (omega arith)
  wrote-root (inside s ∷ Γ) h d = let r = wrote-root Γ h d in (r.0, ap (λ z. [] ∷ z) r.1)
  wrote-root (outermost s ∷ Γ) h d = wrote-root Γ h d
  wrote-root (bound b e ∷ Γ) h d =
      let r = wrote-root Γ h d.1 in
      (r.0, ap₂ (λ x z. in_first (slot b (seen_c gs x)) z) (other own e (λ p q. global-apart a Γ o c e h (subst (λ z. Apart z e Γ) (sym p) d.0) q)) r.1)
  wrote-root (global q b e ∷ Γ) h d = go (eqb b a) refl (λ f. wrote-root Γ f d.1) h
    where
      go : (t : Bool) → eqb b a ≡ t → (global_at a Γ ≡ some (kept o c) →
          (put_in a u (roots_of gs Γ cs ls) ≡ roots_of gs Γ (own_put o c (assigned v) cs) (root_put o c (assigned v) ls))
          × (blocks_of gs Γ (own_put o c (assigned v) cs) ≡ blocks_of gs Γ cs))
          → (If t then some (kept q e) else global_at a Γ) ≡ some (kept o c)
          → ((If t then slot a u ∷ roots_of gs Γ cs ls else slot b (seen_c gs (cell_at (of_owner gs q cs ls) e)) ∷ put_in a u (roots_of gs Γ cs ls))
          ≡ slot b (seen_c gs (cell_at (of_owner gs q (own_put o c (assigned v) cs) (root_put o c (assigned v) ls)) e)) ∷ roots_of gs Γ (own_put o c (assigned v) cs) (root_put o c (assigned v) ls))
          × (blocks_of gs Γ (own_put o c (assigned v) cs) ≡ blocks_of gs Γ cs)
      go true t k f =
          let z = some_is (kept q e) (kept o c) f in
          let ap' : Apart o c Γ = subst (λ x. Apart (owner-of x) (number_of x) Γ) z d.0 in
          let n : cell_at (of_owner gs q (own_put o c (assigned v) cs) (root_put o c (assigned v) ls)) e ≡ assigned v =
          subst (λ x. cell_at (of_owner gs q (own_put o c (assigned v) cs) (root_put o c (assigned v) ls)) x ≡ assigned v) (sym (ap number_of z))
          (now q (ap owner-of z)) in (
            ap₂ (λ x l. x ∷ l) (ap₂ slot (sym (eqb→eq b a (subst T (sym t) tt))) (w ∙ ap (seen_c gs) (sym n))) (sym (apart-roots gs o c (assigned v) cs ls Γ ap')),
            apart-blocks gs o c (assigned v) cs ls Γ ap',
          )
      go false t k f =
          let r = k f in
          (ap₂ (λ x l. slot b (seen_c gs x) ∷ l) (sym (other q e (λ p z. global-apart a Γ o c e f (subst (λ s. Apart s e Γ) (sym p) d.0) z))) r.0, r.1)
  wrote-root (held k ∷ Γ) h d = wrote-root Γ h d
  wrote-root (labels is k ∷ Γ) h d = wrote-root Γ h d

-- an assignment is a store
pub writes : (gs : List Global) (a : ℕ) (Γ : List Around) (o : Owner) (c : ℕ) (v : Value) (y : Cell) (D : Data) → kept_of a Γ ≡ some (kept o c) → Distinct Γ
    → get_elem? (of_owner gs o D.cells D.lowest) c ≡ some y → assign_to a (seen_v gs v) (seen gs Γ D) ≡ seen gs Γ (written o c (assigned v) D)
unfolding assign_to
writes gs a Γ o c v y D h d g = go (bound_at a Γ) refl (rw (in_blocks gs a Γ D.cells D.lowest) refl) h
  where
    go : (x : Option Kept) → bound_at a Γ ≡ x → is_some (cell_of a (blocks_of gs Γ D.cells)) ≡ is_some (cell_for gs (bound_at a Γ) D.cells D.lowest) → or_cell x (global_at a Γ) ≡ some (kept o c)
        → (If is_some (cell_of a (blocks_of gs Γ D.cells)) then with_blocks (put_of a (assigned (seen_v gs v)) (blocks_of gs Γ D.cells)) (seen gs Γ D)
        else with_root (put_in a (assigned (seen_v gs v)) (roots_of gs Γ D.cells D.lowest)) (seen gs Γ D))
        ≡ seen gs Γ (written o c (assigned v) D)
    go none e q f =
        let r = wrote-root gs a (assigned (seen_v gs v)) o c v y D.cells D.lowest refl g Γ f d in
        rw (q, e) (ap₂ (λ x z. with_root x (with_blocks z (seen gs Γ D))) r.0 (sym r.1))
    go (some (kept p x)) e q f =
        let z = some_is (kept p x) (kept o c) f in
        let w : p ≡ own = bound-own a Γ p x e in
        let k : o ≡ own = sym (ap owner-of z) ∙ w in
        let b : bound_at a Γ ≡ some (kept own c) = e ∙ ap some z ∙ ap (λ t. some (kept t c)) k in
        rw (q, e) (subst (λ s. with_blocks (put_of a (assigned (seen_v gs v)) (blocks_of gs Γ D.cells)) (seen gs Γ D) ≡ seen gs Γ (written s c (assigned v) D)) (sym k)
        (ap₂ (λ l m. with_blocks l (with_root m (seen gs Γ D)))
        (wrote-block gs a (assigned (seen_v gs v)) Γ c v y D.cells refl b d (subst (λ s. get_elem? (of_owner gs s D.cells D.lowest) c ≡ some y) k g))
        (sym (kept-roots gs a (assigned (seen_v gs v)) Γ c (assigned v) D.cells D.lowest b d))))

-- Entering a block or a block expression, and its labels: one law for both, by the mark that it begins with.
use Rattle.std.specs.Prelude.{◌≡◌, Bool, true, false, ℕ, suc, ◌+◌, ◌≤◌, ◌<◌, eqb, length, get_or}
use Rattle.std.proofs.Math.Path.{refl, ap}
use Rattle.std.proofs.Common.{sym, ◌∙◌, lt-ltb}
use mathlib.Core.List.{List, [], ◌∷◌, ◌++◌, map}
use Rattle.language.specs.Program.{flat_decl, flat_items}
use Rattle.values.specs.Types.{Ty}
use Rattle.language.specs.Tree.{Decl, Items, count_items}
use Rattle.language.specs.Names.{defines_head, defines_items, Scope, nowhere, found, first_of, otherwise, lookup}
use Rattle.language.specs.Names as names
use Rattle.language_laws.specs.Claims.{entries_of}
use Rattle.table_entries.specs.Stands.{Stands}
use Rattle.table_scopes.specs.Items.{items_at, labels_from, block_items}
use Rattle.table_scopes.specs.Defines.{head_items, label_items, head-items, label-items, heads-stand, items-stand, items-small, labels-small}
use Rattle.table_scopes.specs.Sees.{Legible}
use Rattle.compile_code.specs.Code.{At}
use Rattle.compile_code.specs.Compile.{Around, inside, bound, labels, scopes_of, bound_at, global_at, cell_of, passing, has_label, size_goto, classes_of, class_names}
use Rattle.compile_names.specs.Good.{GoodHead}
use Rattle.compile_names.specs.Known.{of_block, first-append, nothing}
use Rattle.compile_symbols.specs.Numbers.{numbers_from, cells_within}
use Rattle.table_scopes.specs.Environment.{Item, Found, Nothing, Def, find, here, add_all, shut}
use Rattle.table_scopes.specs.Environment as env
use Rattle.table_scopes.specs.EnvironmentLaws.{first_in, or_outer, Small, small-append, find-block}
use Rattle.compile_nodes.specs.Ends.{around_head, at_head, ends_items}
use Rattle.compile_nodes.specs.Knows.{Lies, Walk, MeansLabel, Means, Known, Knows, Lands, passed_to, target_of}
use Rattle.compile_scopes.specs.Marks.{open_in, marks, passed-mark, passed-others, passed_here}
use Rattle.compile_scopes.specs.Means.{both-or, in-append, knows-inside}
use Rattle.compile_scopes.specs.Heads.{entering, around-block, scopes-entering, past-entering, Bytes, head-means, labels-mean, has_first, label-aim}

-- the names in sight within a block or block expression at a place: a mark for each hold of its head, the mark that it begins with, its names
abbrev pub within : ℕ → List ℕ → ℕ → List Decl → Items → List Item → List Item
within k l place ds is v = add_all (block_items l (place + 1) (length ds) (count_items is)) (env.item k 0 0 0 ∷ (marks (open_in ds) ++ v))

-- what lies around after a head that begins at p; around the statements
abbrev pub around_value : Scope → List Decl → List Around → At → List Around
around_value s ds Γ p = around_head bound ds (inside s ∷ Γ) p

abbrev pub around_items : Scope → List Decl → Items → List Around → At → List Around
around_items s ds is Γ p = labels is (at_head ds p).address ∷ around_value s ds Γ p

pub scopes-value : (s : Scope) (ds : List Decl) (Γ : List Around) (p : At) → scopes_of (around_value s ds Γ p) ≡ s ∷ scopes_of Γ
unfolding scopes_of
scopes-value s ds Γ p = ap scopes_of (around-block ds (inside s ∷ Γ) p) ∙ scopes-entering of_block ds p.cell (inside s ∷ Γ)

pub scopes-items : (s : Scope) (ds : List Decl) (is : Items) (Γ : List Around) (p : At) → scopes_of (around_items s ds is Γ p) ≡ s ∷ scopes_of Γ
unfolding scopes_of
scopes-items s ds is Γ p = scopes-value s ds Γ p

module _ {l : List ℕ} (legible : Legible l) (place : ℕ) (ds : List Decl) (is : Items) (h : Stands (entries_of l) place (map flat_decl ds ++ flat_items is)) where
  pub items-are : block_items l place (length ds) (count_items is) ≡ head_items 4 place ds ++ label_items (place + length ds) is
  items-are = rw (head-items legible 4 place ds (heads-stand legible place ds is h), (label-items legible (place + length ds) is (items-stand legible place ds is h)).1)

  pub items-are-small : Small (head_items 4 place ds ++ label_items (place + length ds) is)
  items-are-small = rw items-are at (small-append (items_at 4 l place (length ds)) (labels_from l (place + length ds) (count_items is)) (items-small legible 4 place (length ds))
      (labels-small legible (place + length ds) (count_items is)))

-- ── what names stand for ──
head-nowhere : (a : ℕ) (ds : List Decl) (is : Items) → first_of a (defines_head ds ++ defines_items is) ≡ nowhere → first_of a (defines_head ds) ≡ nowhere
head-nowhere a ds is h = go (first_of a (defines_head ds)) refl (sym (first-append a (defines_head ds) (defines_items is)) ∙ h)
  where
    go : (f : names.Found) → first_of a (defines_head ds) ≡ f → otherwise f (first_of a (defines_items is)) ≡ nowhere → first_of a (defines_head ds) ≡ nowhere
    go nowhere e k = e
    go (found s w) e k = nothing s w (sym k)

inside-look : (a : ℕ) (s : Scope) (Γ : List Around) → cell_of a (inside s ∷ Γ) ≡ cell_of a Γ
unfolding bound_at global_at
inside-look a s Γ = refl

module _ {W : Walk} {v : List Item} {Γ : List Around} (known : Knows W v Γ) (k : ℕ) (s : Scope) (place : ℕ) (ds : List Decl) (is : Items) (p : At) (outside : names.Found → names.Found) where
  pub knows-within : 65535 < k
      → ((ss : List Scope) (a : ℕ) → lookup a (s ∷ ss) ≡ otherwise (first_of a (defines_head ds ++ defines_items is)) (outside (lookup a ss)))
      → ((a : ℕ) (f : Found) (x : names.Found) → Known W Γ a f x → Known W Γ a f (outside x))
      → Small (head_items 4 place ds ++ label_items (place + length ds) is)
      → GoodHead (s ∷ scopes_of Γ) [] ds → Bytes W.globals ds
      → Lies W.known place (numbers_from (class_names (classes_of W.globals)) p.cell (map flat_decl ds)) → p.cell + cells_within (map flat_decl ds) ≤ 32
      → Knows W (add_all (head_items 4 place ds ++ label_items (place + length ds) is) (env.item k 0 0 0 ∷ v)) (around_value s ds Γ p)
  knows-within mark looks goes small good bytes lies few =
      knows-inside W known k (head_items 4 place ds ++ label_items (place + length ds) is) (defines_head ds ++ defines_items is) outside mark small
      (λ a. ap (lookup a) (scopes-value s ds Γ p) ∙ looks (scopes_of Γ) a) goes
      (λ a e. ap (cell_of a) (around-block ds (inside s ∷ Γ) p) ∙ past-entering of_block a ds p.cell (inside s ∷ Γ) (head-nowhere a ds is e) ∙ inside-look a s Γ)
      (λ a. rw (in-append a (head_items 4 place ds) (label_items (place + length ds) is), first-append a (defines_head ds) (defines_items is), around-block ds (inside s ∷ Γ) p)
      (both-or (λ q t. Means W (entering of_block ds p.cell (inside s ∷ Γ)) a q t)
      (first_in a (head_items 4 place ds)) (first_in a (label_items (place + length ds) is)) (first_of a (defines_head ds)) (first_of a (defines_items is))
      (head-means W a ds place p.cell (inside s ∷ Γ) (s ∷ scopes_of Γ) [] good bytes lies few)
      (labels-mean W a (place + length ds) is (entering of_block ds p.cell (inside s ∷ Γ)))))

-- ── where a goto lands ──
abbrev pub NoLabel : List Item → Type 0
NoLabel hs = (a s n q : ℕ) (w : Bool) → first_in a hs ≡ Def s n q w → s ≡ 5 → ⊥

abbrev pub LandsOuter : Walk → ℕ → List Item → List Around → Type 0
LandsOuter W k u Δ =
    (a n q : ℕ) → a < 65536 → env.passing (eqb k shut) (find a u) ≡ Def 5 n q false
    → (suc (passed_to a u) ≡ size_goto (passing Δ) a) × (W.dry ≡ false → get_or W.aims q 0 ≡ target_of Δ a)

module _ (W : Walk) (k : ℕ) (hs : List Item) (place : ℕ) (is : Items) (u : List Item) (Δ : List Around) (st : List Ty) (x : At) where
  pub lands_within : 65535 < k → k < 65539 → Small (hs ++ label_items place is) → NoLabel hs
      → (W.dry ≡ false → Lies W.aims place (ends_items W.globals is (labels is x.address ∷ Δ) st x)) → LandsOuter W k u Δ
      → Lands W (add_all (hs ++ label_items place is) (env.item k 0 0 0 ∷ u)) (labels is x.address ∷ Δ)
  unfolding passing size_goto target_of scopes_of here
  lands_within mark low small none aimed outer = record {
    lands = λ a n q z e.
        go a n q z (first_in a hs) refl (first_in a (label_items place is)) refl
        (sym (find-block a z k (hs ++ label_items place is) u mark small ∙ ap (λ f. or_outer f (env.passing (eqb k shut) (find a u))) (in-append a hs (label_items place is))) ∙ e);
  }
    where
      js : List Item
      js = hs ++ label_items place is

      no-here : (a : ℕ) → here a (env.item k 0 0 0 ∷ u) ≡ false
      no-here a = rw (lt-ltb 65535 k mark)

      go : (a n q : ℕ) → a < 65536 → (f : Found) → first_in a hs ≡ f → (g : Found) → first_in a (label_items place is) ≡ g
          → or_outer (or_outer f g) (env.passing (eqb k shut) (find a u)) ≡ Def 5 n q false
          → MeansLabel W (add_all (hs ++ label_items place is) (env.item k 0 0 0 ∷ u)) (labels is x.address ∷ Δ) a q
      go a n q z (Def s m r w) e g d y = let i : s ≡ 5 = cc in absurd (none a s m r w e i)
      go a n q z Nothing e (Def s m r w) d y =
          let i : r ≡ q = cc in
          let b : has_label a is ≡ true = has_first a place is ∙ rw d in
          let j : first_in a (hs ++ label_items place is) ≡ Def s m r w = in-append a hs (label_items place is) ∙ rw (e, d) in
          record {
            passed = rw (passed_here a z (hs ++ label_items place is) (env.item k 0 0 0 ∷ u) small (no-here a) j, b);
            aimed = λ c. rw b (rw i at (label-aim a W.globals W.aims is place (labels is x.address ∷ Δ) st x (aimed c) d));
          }
      go a n q z Nothing e Nothing d y =
          let b : has_label a is ≡ false = has_first a place is ∙ rw d in
          let j : first_in a (hs ++ label_items place is) ≡ Nothing = in-append a hs (label_items place is) ∙ rw (e, d) in
          let o = outer a n q z y in
          record {
            passed = rw (passed-others a z (hs ++ label_items place is) (env.item k 0 0 0 ∷ u) small j, passed-mark a z k u mark low, b) o.0;
            aimed = λ c. rw b (o.1 c);
          }

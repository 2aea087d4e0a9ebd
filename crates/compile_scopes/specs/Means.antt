-- What a definition stands for, found among items and among definitions alike; kept where no nearer definition of the name comes between.
use Rattle.std.specs.Prelude.{◌≡◌, Bool, true, false, ℕ, ◌+◌, ◌-◌, ◌≤◌, ◌<◌, eqb, length}
use Rattle.std.proofs.Math.Path.{refl}
use Rattle.std.proofs.Common.{◌∙◌, arith, le-ltb}
use mathlib.Core.List.{List, [], ◌∷◌, ◌++◌}
use Rattle.logic.specs.Choice.{If◌then◌else◌}
use Rattle.values.specs.Types.{Ty, integer, logical, bits, reference, ty_code, ty_byte}
use Rattle.language.specs.Tree.{Items}
use Rattle.language.specs.Names.{Sort, is_variable, is_label, is_class, is_field, is_procedure, is_control, Definition, nowhere, found, first_of, otherwise, across, lookup}
use Rattle.language.specs.Names as names
use Rattle.compile_code.specs.Compile.{Around, labels, scopes_of, bound_at, global_at, cell_of, numbered}
use Rattle.compile_symbols.specs.Numbers.{byte_of}
use Rattle.table_scopes.specs.Environment.{Item, item, Found, Nothing, Def, find, add_all, passing, opened, shut}
use Rattle.table_scopes.specs.EnvironmentLaws.{first_in, or_outer, Small, find-block}
use Rattle.compile_nodes.specs.Knows.{Walk, MeansCell, Means, Known, Knows}
use Rattle.compile_code.specs.Counts.{index-most}

-- ── both lookups find nothing, or both a definition that P holds of ──
abbrev pub Both : (ℕ → Sort → Type 0) → Found → names.Found → Type 0
Both P Nothing nowhere = Unit {0}
Both P Nothing (found t b) = ⊥
Both P (Def s n q w) nowhere = ⊥
Both P (Def s n q w) (found t b) = P q t

pub both-or : (P : ℕ → Sort → Type 0) (f g : Found) (x y : names.Found) → Both P f x → Both P g y → Both P (or_outer f g) (otherwise x y)
both-or P Nothing g nowhere y h k = k
both-or P Nothing g (found t b) y h k = absurd h
both-or P (Def s n q w) g nowhere y h k = absurd h
both-or P (Def s n q w) g (found t b) y h k = h

pub in-append : (a : ℕ) (is js : List Item) → first_in a (is ++ js) ≡ or_outer (first_in a is) (first_in a js)
unfolding first_in
in-append a [] js = refl
in-append a (item m s n q ∷ is) js = pick (eqb m a) (in-append a is js)
  where
    pick : (b : Bool) → first_in a (is ++ js) ≡ or_outer (first_in a is) (first_in a js)
        → (If b then Def s n q false else first_in a (is ++ js)) ≡ or_outer (If b then Def s n q false else first_in a is) (first_in a js)
    pick true e = refl
    pick false e = e

-- ── a type's byte, as the numbers by entry have it ──
pub byte-type : (cs : List ℕ) (t : Ty) → byte_of cs (ty_code t) ≡ ty_byte (numbered cs t)
byte-type cs integer = refl
byte-type cs logical = refl
byte-type cs bits = refl
byte-type cs (reference c) =
    let e : 65536 + c - 65536 ≡ c = omega arith in
    rw (le-ltb (65536 + c) 65536 (omega arith), e)

pub byte_small : (cs : List ℕ) (t : Ty) → length cs ≤ 16 → ty_byte (numbered cs t) < 256
byte_small cs integer h = omega arith
byte_small cs logical h = omega arith
byte_small cs bits h = omega arith
byte_small cs (reference c) h = omega (arith, index-most c cs)

-- ── kept ──
module _ (W : Walk) where
  cell-moved : (Γ Δ : List Around) (a q : ℕ) (t : Ty) → cell_of a Δ ≡ cell_of a Γ → MeansCell W Γ a q t → MeansCell W Δ a q t
  cell-moved Γ Δ a q t e m = record {
    owner = m.owner;
    cell = m.cell;
    whose = m.whose;
    found = e ∙ m.found;
    number = m.number;
    owned = m.owned;
    small-type = m.small-type;
    small-whose = m.small-whose;
    small-cell = m.small-cell;
  }

  pub means-moved : (Γ Δ : List Around) (a q : ℕ) → cell_of a Δ ≡ cell_of a Γ → (t : Sort) → Means W Γ a q t → Means W Δ a q t
  means-moved Γ Δ a q e (is_variable t) m = cell-moved Γ Δ a q t e m
  means-moved Γ Δ a q e is_label m = tt
  means-moved Γ Δ a q e (is_class ts) m = m
  means-moved Γ Δ a q e (is_field c t) m = m
  means-moved Γ Δ a q e (is_procedure ts us) m = m
  means-moved Γ Δ a q e is_control m = cell-moved Γ Δ a q integer e m

  known-moved : (Γ Δ : List Around) (a : ℕ) (f : Found) (x : names.Found) → cell_of a Δ ≡ cell_of a Γ → Known W Γ a f x → Known W Δ a f x
  known-moved Γ Δ a Nothing x e k = tt
  known-moved Γ Δ a (Def s n q w) nowhere e k = tt
  known-moved Γ Δ a (Def s n q w) (found t b) e k = means-moved Γ Δ a q e t k

  pub both-moved : (Γ Δ : List Around) (a : ℕ) (f : Found) (x : names.Found) → cell_of a Δ ≡ cell_of a Γ → Both (λ q t. Means W Γ a q t) f x → Both (λ q t. Means W Δ a q t) f x
  both-moved Γ Δ a Nothing nowhere e k = tt
  both-moved Γ Δ a Nothing (found t b) e k = absurd k
  both-moved Γ Δ a (Def s n q w) nowhere e k = absurd k
  both-moved Γ Δ a (Def s n q w) (found t b) e k = means-moved Γ Δ a q e t k

  known-passing : (Γ : List Around) (a : ℕ) (f : Found) (x : names.Found) (b : Bool) → Known W Γ a f x → Known W Γ a (passing b f) x
  known-passing Γ a Nothing x b k = tt
  known-passing Γ a (Def s n q w) nowhere b k = tt
  known-passing Γ a (Def s n q w) (found t c) b k = k

  pub known-across : (Γ : List Around) (a : ℕ) (f : Found) (x : names.Found) → Known W Γ a f x → Known W Γ a f (across x)
  known-across Γ a Nothing x k = tt
  known-across Γ a (Def s n q w) nowhere k = tt
  known-across Γ a (Def s n q w) (found t c) k = k

  known-or : (Γ : List Around) (a : ℕ) (f g : Found) (x y : names.Found) → Both (λ q t. Means W Γ a q t) f x → (x ≡ nowhere → Known W Γ a g y) → Known W Γ a (or_outer f g) (otherwise x y)
  known-or Γ a Nothing g nowhere y h k = k refl
  known-or Γ a Nothing g (found t b) y h k = absurd h
  known-or Γ a (Def s n q w) g nowhere y h k = absurd h
  known-or Γ a (Def s n q w) g (found t b) y h k = h

  -- the labels of a block change nothing
  pub knows-labels : {v : List Item} {Γ : List Around} (is : Items) (x : ℕ) → Knows W v Γ → Knows W v (labels is x ∷ Γ)
  unfolding scopes_of bound_at global_at
  knows-labels {v} {Γ} is x h = record { knows = λ a k. known-moved Γ (labels is x ∷ Γ) a (find a v) (lookup a (scopes_of Γ)) refl (h.knows a k) }

  -- within the root, outside which there is nothing
  pub knows-root : {Δ : List Around} (is : List Item) (ds : List Definition) → Small is → ((a : ℕ) → lookup a (scopes_of Δ) ≡ otherwise (first_of a ds) nowhere)
      → ((a : ℕ) → Both (λ q t. Means W Δ a q t) (first_in a is) (first_of a ds)) → Knows W (add_all is (item opened 0 0 0 ∷ [])) Δ
  unfolding find
  knows-root {Δ} is ds small looks new = record {
    knows = λ a z.
        rw (find-block a z opened is [] (omega arith) small, looks a) (known-or Δ a (first_in a is) Nothing (first_of a ds) nowhere (new a) (λ e. tt));
  }

  -- within a block, a block expression or a procedure that begins with the mark k, and in it the definitions ds, which are pushed as is;
  -- `outside` is how a name that they lack is looked up
  module _ {v : List Item} {Γ Δ : List Around} (h : Knows W v Γ) (k : ℕ) (is : List Item) (ds : List Definition) (outside : names.Found → names.Found) where
    pub knows-inside : 65535 < k → Small is
        → ((a : ℕ) → lookup a (scopes_of Δ) ≡ otherwise (first_of a ds) (outside (lookup a (scopes_of Γ))))
        → ((a : ℕ) (f : Found) (x : names.Found) → Known W Γ a f x → Known W Γ a f (outside x))
        → ((a : ℕ) → first_of a ds ≡ nowhere → cell_of a Δ ≡ cell_of a Γ)
        → ((a : ℕ) → Both (λ q t. Means W Δ a q t) (first_in a is) (first_of a ds))
        → Knows W (add_all is (item k 0 0 0 ∷ v)) Δ
    knows-inside mark small looks goes past new = record {
      knows = λ a z.
          rw (find-block a z k is v mark small, looks a)
          (known-or Δ a (first_in a is) (passing (eqb k shut) (find a v)) (first_of a ds) (outside (lookup a (scopes_of Γ))) (new a) (λ e.
          known-passing Δ a (find a v) (outside (lookup a (scopes_of Γ))) (eqb k shut)
          (known-moved Γ Δ a (find a v) (outside (lookup a (scopes_of Γ))) (past a e) (goes a (find a v) (lookup a (scopes_of Γ)) (h.knows a z)))));
    }

-- What is known of a name in sight is what the definition's code says of it.
use Rattle.std.specs.Prelude.{◌≡◌, refl, Bool, List, ℕ, ◌+◌, ◌<◌, get_or}
use Rattle.std.proofs.Common.{ap, ◌∙◌, subst, arith}
use Rattle.std.proofs.Math.Option.{some}
use Rattle.values.specs.Types.{Ty, integer, reference, ty_byte}
use Rattle.language.specs.Names.{Sort, is_variable, is_label, is_class, is_field, is_procedure, is_control, as_variable, nowhere, found, lookup}
use Rattle.language.specs.Names as names
use Rattle.table_scopes.specs.Environment.{Item, Found, Nothing, Def, find}
use Rattle.table_scopes.specs.Sees.{Agrees, Sees}
use Rattle.compile_code.specs.Compile.{Around, scopes_of, cell_of, loading, storing, ty_in, class_number, body_number, field_number}
use Rattle.compile_code.specs.Encode.{rec, record_of, owner_code}
use Rattle.compile_names.specs.Known.{nothing}
use Rattle.compile_symbols.specs.Numbers.{packed, type_in, first_in, second_in}
use Rattle.compile_symbols.specs.Packed.{type-packed, first-packed, second-packed}
use Rattle.compile_symbols.specs.Meaning.{meaning_of, known_of}
use Rattle.compile_nodes.specs.Knows.{Walk, MeansCell, Means, Known, Knows, result_of}
use Rattle.compile_emit.specs.EmitEntry.{owner_by}

pub record Meaning (W : Walk) (v : List Item) (Γ : List Around) (a : ℕ) (s : Sort) : Type 0 where
  pub place : ℕ
  pub read : meaning_of a v W.known ≡ get_or W.known place 0
  pub means : Means W Γ a place s

pub meaning-of : {W : Walk} {l : List ℕ} {v : List Item} {Γ : List Around} → Sees l v (scopes_of Γ) → Knows W v Γ → (a : ℕ) → a < 65536
    → (s : Sort) (b : Bool) → lookup a (scopes_of Γ) ≡ found s b → Meaning W v Γ a s
meaning-of {W} {l} {v} {Γ} see know a small s b e = go (find a v) refl (lookup a (scopes_of Γ)) e (see.sees a small) (know.knows a small)
  where
    go : (f : Found) → find a v ≡ f → (x : names.Found) → x ≡ found s b → Agrees l f x → Known W Γ a f x → Meaning W v Γ a s
    go Nothing h nowhere z g k = nothing s b z
    go Nothing h (found t u) z g k = absurd g
    go (Def t n q u) h nowhere z g k = absurd g
    go (Def t n q u) h (found i r) z g k = let y : i ≡ s = cc in record { place = q; read = ap (known_of W.known) h; means = subst (λ j. Means W Γ a q j) y k }

module _ {W : Walk} {v : List Item} {Γ : List Around} {a : ℕ} where
  -- a control name stands for its cell as a variable does
  pub variable-meaning : (s : Sort) (t : Ty) → as_variable s ≡ some t → Meaning W v Γ a s → Meaning W v Γ a (is_variable t)
  variable-meaning (is_variable u) t e m =
      let z : u ≡ t = cc in record { place = m.place; read = m.read; means = subst (λ x. MeansCell W Γ a m.place x) z m.means }
  variable-meaning is_label t e m = let z : ◌≡◌ {A = ℕ} 0 1 = cc e in absurd (omega arith)
  variable-meaning (is_class ts) t e m = let z : ◌≡◌ {A = ℕ} 0 1 = cc e in absurd (omega arith)
  variable-meaning (is_field c u) t e m = let z : ◌≡◌ {A = ℕ} 0 1 = cc e in absurd (omega arith)
  variable-meaning (is_procedure ts us) t e m = let z : ◌≡◌ {A = ℕ} 0 1 = cc e in absurd (omega arith)
  variable-meaning is_control t e m =
      let z : integer ≡ t = cc in record { place = m.place; read = m.read; means = subst (λ x. MeansCell W Γ a m.place x) z m.means }

  module _ {t : Ty} (m : Meaning W v Γ a (is_variable t)) (k : ℕ) (e : k ≡ meaning_of a v W.known) where
    variable-is : k ≡ packed (ty_byte (ty_in W.globals t)) m.means.whose m.means.cell
    variable-is = e ∙ m.read ∙ m.means.number

    pub variable-type : type_in k ≡ ty_byte (ty_in W.globals t)
    variable-type = rw variable-is (type-packed _ _ _ m.means.small-type m.means.small-whose m.means.small-cell)

    variable-cell : second_in k ≡ m.means.cell
    variable-cell = rw variable-is (second-packed _ _ _ m.means.small-type m.means.small-whose m.means.small-cell)

    variable-owner : (inside : Bool) → inside ≡ W.within → owner_by inside k ≡ owner_code m.means.owner
    variable-owner inside h = rw (h, variable-is, first-packed _ _ _ m.means.small-type m.means.small-whose m.means.small-cell) m.means.owned

    pub variable-load : (inside : Bool) → inside ≡ W.within → record_of (loading (cell_of a Γ)) ≡ rec 5 (owner_by inside k) (second_in k)
    unfolding record_of
    variable-load inside h = rw (m.means.found, variable-owner inside h, variable-cell)

    pub variable-store : (inside : Bool) → inside ≡ W.within → record_of (storing (cell_of a Γ)) ≡ rec 6 (owner_by inside k) (second_in k)
    unfolding record_of
    variable-store inside h = rw (m.means.found, variable-owner inside h, variable-cell)

  module _ {ts : List Ty} (m : Meaning W v Γ a (is_class ts)) (k : ℕ) (e : k ≡ meaning_of a v W.known) where
    class-is : k ≡ packed (16 + class_number W.globals a) (class_number W.globals a) 0
    class-is = e ∙ m.read ∙ m.means.number

    pub class-type : type_in k ≡ ty_byte (ty_in W.globals (reference a))
    class-type = rw class-is (type-packed _ _ _ (omega (arith, m.means.small)) (omega (arith, m.means.small)) (omega arith))

    pub class-first : first_in k ≡ class_number W.globals a
    class-first = rw class-is (first-packed _ _ _ (omega (arith, m.means.small)) (omega (arith, m.means.small)) (omega arith))

  module _ {c : ℕ} {t : Ty} (m : Meaning W v Γ a (is_field c t)) (k : ℕ) (e : k ≡ meaning_of a v W.known) where
    field-is : k ≡ packed (ty_byte (ty_in W.globals t)) (field_number W.globals a).class (field_number W.globals a).index
    field-is = e ∙ m.read ∙ m.means.number

    pub field-type : type_in k ≡ ty_byte (ty_in W.globals t)
    field-type = rw field-is (type-packed _ _ _ m.means.small-type m.means.small-class m.means.small-index)

    pub field-first : first_in k ≡ (field_number W.globals a).class
    field-first = rw field-is (first-packed _ _ _ m.means.small-type m.means.small-class m.means.small-index)

    pub field-second : second_in k ≡ (field_number W.globals a).index
    field-second = rw field-is (second-packed _ _ _ m.means.small-type m.means.small-class m.means.small-index)

  module _ {ts us : List Ty} (m : Meaning W v Γ a (is_procedure ts us)) (k : ℕ) (e : k ≡ meaning_of a v W.known) where
    body_is : k ≡ packed (result_of W.globals us) 0 (body_number W.globals a)
    body_is = e ∙ m.read ∙ m.means.number

    pub body-type : type_in k ≡ result_of W.globals us
    body-type = rw body_is (type-packed (result_of W.globals us) 0 (body_number W.globals a) m.means.small-type (omega arith) m.means.small-body)

    pub body-second : second_in k ≡ body_number W.globals a
    body-second = rw body_is (second-packed (result_of W.globals us) 0 (body_number W.globals a) m.means.small-type (omega arith) m.means.small-body)

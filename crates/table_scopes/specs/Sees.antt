-- The names in sight agree with the blocks around: what is found among the items is what the lookup of the definitions finds.
use Rattle.std.specs.Prelude.{◌≡◌, Bool, ℕ, ◌+◌, ◌*◌, ◌/◌, ◌%◌, ◌≤◌, ◌<◌, length}
use Rattle.std.proofs.Math.Path.{refl}
use Rattle.std.proofs.Common.{sym, arith}
use Rattle.std.proofs.Math.Bool.{true, false}
use mathlib.Core.List.{List, [], ◌∷◌, ◌++◌, map}
use Rattle.std.proofs.Math.Dec.{eqb}
use Rattle.language.specs.Program.{flat_typed}
use Rattle.logic.specs.Choice.{If◌then◌else◌}
use Rattle.words.specs.Laws.{Bytes}
use Rattle.values.specs.Types.{Ty, ty_code}
use Rattle.language.specs.Tree.{Typed}
use Rattle.language.specs.Table.{Entry, in_layout}
use Rattle.language.specs.Names.{Sort, is_variable, is_label, is_class, is_field, is_procedure, is_control, Definition, types, Scope, in_block, in_expression}
use Rattle.language.specs.Names.{in_procedure, define, loop_of, nowhere, found, first_of, otherwise, across, lookup}
use Rattle.language.specs.Names as names
use Rattle.language_laws.specs.Lookup.{lookup-none, lookup-block, lookup-expression, lookup-procedure, lookup-loop}
use Rattle.language_laws.specs.Claims.{entries_of}
use Rattle.table_scopes.specs.Environment.{Item, item, Found, Nothing, Def, opened, shut, value, find, add_all, passing}
use Rattle.table_scopes.specs.EnvironmentLaws.{first_in, or_outer, Small, find-block, find-item, past-mark, passing-none}
use Rattle.table_entries.specs.Stands.{Stands}

-- a table whose entries all keep to the layout
pub record Legible (l : List ℕ) : Type 0 where
  pub bytes : Bytes l
  pub short : length l ≤ 16384
  pub layout : (p : ℕ) (e : Entry) (us : List Entry) → Stands (entries_of l) p (e ∷ us) → in_layout e ≡ true

-- so many declarations after the entry q, of these types
pub record Declared (l : List ℕ) (n q : ℕ) (ts : List Ty) : Type 0 where
  pub declarations : List Typed
  pub same : types declarations ≡ ts
  pub count : n ≡ length declarations
  pub stands : Stands (entries_of l) (q + 1) (map flat_typed declarations)
  pub within : 8 * (q + 1) ≤ length l

abbrev pub Result : ℕ → List Ty → Type 0
Result n [] = n ≡ 0
Result n (t ∷ []) = n ≡ ty_code t
Result n (t ∷ (u ∷ us)) = ⊥

-- an item's sort, number and place are those of a definition
abbrev pub Sorted : List ℕ → ℕ → ℕ → ℕ → Sort → Type 0
Sorted l s n q (is_variable t) = (s ≡ 4) × (n ≡ ty_code t)
Sorted l s n q is_label = s ≡ 5
Sorted l s n q (is_class ts) = (s ≡ 6) × Declared l n q ts
Sorted l s n q (is_field c t) = (s ≡ 65536 + c) × (n ≡ ty_code t)
Sorted l s n q (is_procedure ts us) = (s ≡ 7) × Declared l (n / 256) q ts × Result (n % 256) us
Sorted l s n q is_control = (s ≡ 8) × (n ≡ 1)

abbrev pub Agrees : List ℕ → Found → names.Found → Type 0
Agrees l Nothing nowhere = Unit {0}
Agrees l Nothing (found t b) = ⊥
Agrees l (Def s n q w) nowhere = ⊥
Agrees l (Def s n q w) (found t b) = (w ≡ b) × Sorted l s n q t

pub record Sees (l : List ℕ) (v : List Item) (ss : List Scope) : Type 0 where
  pub sees : (a : ℕ) → a < 65536 → Agrees l (find a v) (lookup a ss)

unfoldable pub Matches : List ℕ → List Item → List Definition → Type 0
Matches l [] [] = Unit {0}
Matches l [] (d ∷ ds) = ⊥
Matches l (i ∷ is) [] = ⊥
Matches l (item a s n q ∷ is) (d ∷ ds) = (a ≡ d.name) × Sorted l s n q d.sort × Matches l is ds

pub matches-append : (l : List ℕ) (is js : List Item) (ds es : List Definition) → Matches l is ds → Matches l js es → Matches l (is ++ js) (ds ++ es)
unfolding Matches
matches-append l [] js [] es m k = k
matches-append l [] js (d ∷ ds) es m k = absurd m
matches-append l (i ∷ is) js [] es m k = absurd m
matches-append l (item a s n q ∷ is) js (d ∷ ds) es m k = (m.0, m.1, matches-append l is js ds es m.2 k)

module _ (l : List ℕ) (a : ℕ) where
  first-agrees : (is : List Item) (ds : List Definition) → Matches l is ds → Agrees l (first_in a is) (first_of a ds)
  unfolding Matches first_in first_of
  first-agrees [] [] m = tt
  first-agrees [] (d ∷ ds) m = absurd m
  first-agrees (i ∷ is) [] m = absurd m
  first-agrees (item b s n q ∷ is) (d ∷ ds) m = go (eqb d.name a) refl (first-agrees is ds m.2)
    where
      go : (x : Bool) → eqb d.name a ≡ x → Agrees l (first_in a is) (first_of a ds)
          → Agrees l (If eqb b a then Def s n q false else first_in a is) (If eqb d.name a then found d.sort false else first_of a ds)
      go true e k = rw (m.0, e) (refl, m.1)
      go false e k = rw (m.0, e) k

or-agrees : (l : List ℕ) (f g : Found) (x y : names.Found) → Agrees l f x → Agrees l g y → Agrees l (or_outer f g) (otherwise x y)
or-agrees l Nothing g nowhere y h k = k
or-agrees l Nothing g (found t b) y h k = absurd h
or-agrees l (Def s n q w) g nowhere y h k = absurd h
or-agrees l (Def s n q w) g (found t b) y h k = h

across-agrees : (l : List ℕ) (f : Found) (x : names.Found) → Agrees l f x → Agrees l (passing true f) (across x)
across-agrees l Nothing nowhere h = tt
across-agrees l Nothing (found t b) h = absurd h
across-agrees l (Def s n q w) nowhere h = absurd h
across-agrees l (Def s n q w) (found t b) h = (refl, h.1)

-- within a block, a block expression, a procedure
module _ {l : List ℕ} {v : List Item} {ss : List Scope} (h : Sees l v ss) (is : List Item) (ds : List Definition) (m : Matches l is ds) (small : Small is) where
  pub sees-block : Sees l (add_all is (item opened 0 0 0 ∷ v)) (in_block ds ∷ ss)
  sees-block = record {
    sees = λ a k.
        rw (find-block a k opened is v (omega arith) small, sym (passing-none (find a v)), lookup-block a ds ss)
        (or-agrees l (first_in a is) (find a v) (first_of a ds) (lookup a ss) (first-agrees l a is ds m) (h.sees a k));
  }

  pub sees-expression : Sees l (add_all is (item shut 0 0 0 ∷ v)) (in_expression ds ∷ ss)
  sees-expression = record {
    sees = λ a k.
        rw (find-block a k shut is v (omega arith) small, lookup-expression a ds ss)
        (or-agrees l (first_in a is) (passing true (find a v)) (first_of a ds) (across (lookup a ss)) (first-agrees l a is ds m) (across-agrees l (find a v) (lookup a ss) (h.sees a k)));
  }

  pub sees-procedure : Sees l (add_all is (item shut 0 0 0 ∷ v)) (in_procedure ds ∷ ss)
  sees-procedure = record {
    sees = λ a k.
        rw (find-block a k shut is v (omega arith) small, lookup-procedure a ds ss)
        (or-agrees l (first_in a is) (passing true (find a v)) (first_of a ds) (across (lookup a ss)) (first-agrees l a is ds m) (across-agrees l (find a v) (lookup a ss) (h.sees a k)));
  }

-- within a for clause, whose kind 31 stands at q
pub sees-loop : {l : List ℕ} {v : List Item} {ss : List Scope} → Sees l v ss → (a q : ℕ) → a < 65536
    → Sees l (item a 8 1 q ∷ (item opened 0 0 0 ∷ v)) (loop_of a ∷ ss)
unfolding Matches
sees-loop {l} {v} {ss} h a q small = record {
  sees = λ b k.
      let is = item a 8 1 q ∷ [] in
      let ds = define a is_control ∷ [] in
      rw (find-item b a 8 1 q (item opened 0 0 0 ∷ v) small, past-mark b k opened 0 0 0 v (omega arith), sym (passing-none (find b v)), lookup-loop b (define a is_control) ss)
      (or-agrees l (first_in b is) (find b v) (first_of b ds) (lookup b ss) (first-agrees l b is ds (refl, (refl, refl), tt)) (h.sees b k));
}

-- above the type of an operand
pub sees-value : {l : List ℕ} {v : List Item} {ss : List Scope} (t : ℕ) → Sees l v ss → Sees l (item value 0 t 0 ∷ v) ss
sees-value {v = v} t h = record { sees = λ a k. rw (past-mark a k value 0 t 0 v (omega arith), sym (passing-none (find a v))) (h.sees a k) }

pub sees-none : (l : List ℕ) → Sees l [] []
unfolding find
sees-none l = record { sees = λ a k. rw (lookup-none a) tt }

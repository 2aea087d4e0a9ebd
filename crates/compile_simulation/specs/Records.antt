-- Records: fields by name in the tree, by place in the machine.
use Rattle.std.specs.Prelude.{Bool, ◌||◌, ltb, leb, length}
use Rattle.std.proofs.Math.Bool.{true, false}
use Rattle.std.proofs.Math.Path.{◌≡◌, refl, ap, sym, subst}
use Rattle.std.proofs.Common.{◌∙◌, subst₂, arith, eqb→eq}
use mathlib.Core.List.{List, [], ◌∷◌, ◌++◌, map}
use Rattle.std.proofs.Math.Option.{Option, none, some}
use Prim.Native.Nat.{ℕ, zero, suc}
use Rattle.std.proofs.Math.Dec.{T, eqb}
use Rattle.std.proofs.Math.ListN.{get_elem?, set as put}
use Rattle.logic.specs.Choice.{If◌then◌else◌}
use Rattle.logic.specs.Options.{keep}
use Rattle.values.specs.Types.{Ty, fits, all_fit}
use Rattle.values.specs.Ends.{field_of_null, too_many_records}
use Rattle.values.specs.Values.{Value, ref, Reference, as_reference, ty_of, tys_of, assigned}
use Rattle.language.specs.Tree.{Typed, Global}
use Rattle.language.specs.Execute.{Store, Result, done, slot, cell_in, put_in, pair_up, do_field, do_put_field, do_make, asked, on_record, with_records}
use Rattle.language.specs.Execute.{Made as TreeMade, condition as tree_condition, on_made as tree_made}
use Rattle.bytecode.specs.Instructions.{make, get_field, put_field, field_ty}
use Rattle.bytecode.specs.Machine.{Made, Here, Stepped, bad_record, bad_type, bad_frame, demand, given, goes_on, condition, act, fetch, on_made, on_field}
use Rattle.bytecode.specs.Machine.{do_get_field as machine_get, do_put_field as machine_put, do_make as machine_make, with_records as machine_with}
use Rattle.compile_code.specs.Compile.{Around, held_in, classes_of, names_of, index_of, among_names}
use Rattle.compile_simulation.specs.Meets.{Conf, stepped, Setting, Meets, lost, demanded, had}
use Rattle.compile_simulation.specs.View.{Data, seen, seen_v, seen_r, class_of}
use Rattle.compile_simulation.specs.Projections.{named, seen-reference}
use Rattle.compile_simulation.specs.Ops.{here_of, op-at, conds, goes-on}
use Rattle.compile_simulation.specs.Calls.{onto, pops}
use Rattle.compile_simulation.specs.Placed.{Work, Holds, at-work, place_of, Sees, Nothing, One, Arrives, given-one, arrived}

module _ (gs : List Global) where
  -- a field is found by its name where it stands by its number
  abbrev pub OkField : ℕ → ℕ → ℕ → Type 0
  OkField a c x = (ws : List Value) (w : Value) → get_elem? ws x ≡ some w → (cell_in a (pair_up (class_of (classes_of gs) c).fields (map (seen_v gs) ws)) ≡ some (assigned (seen_v gs w)))
      × ((u : Value) → put_in a (assigned (seen_v gs u)) (pair_up (class_of (classes_of gs) c).fields (map (seen_v gs) ws)) ≡ pair_up (class_of (classes_of gs) c).fields (map (seen_v gs) (put ws x u)))

  pub field-there : (a : ℕ) (xs : List Typed) (ws : List Value) (w : Value) → among_names a (names_of xs) ≡ true → get_elem? ws (index_of a (names_of xs)) ≡ some w
      → (cell_in a (pair_up xs (map (seen_v gs) ws)) ≡ some (assigned (seen_v gs w)))
      × ((u : Value) → put_in a (assigned (seen_v gs u)) (pair_up xs (map (seen_v gs) ws)) ≡ pair_up xs (map (seen_v gs) (put ws (index_of a (names_of xs)) u)))
  unfolding among_names names_of index_of cell_in put_in pair_up
  field-there a [] ws w h e = let z : ◌≡◌ {A = ℕ} 0 1 = cc h in absurd (omega arith)
  field-there a (x ∷ xs) [] w h e = let z : ◌≡◌ {A = ℕ} 0 1 = cc e in absurd (omega arith)
  field-there a (x ∷ xs) (v ∷ ws) w h e = pick (eqb x.name a) refl h e (λ h' e'. field-there a xs ws w h' e')
    where
      pick : (t : Bool) → eqb x.name a ≡ t → (t || among_names a (names_of xs)) ≡ true → get_elem? (v ∷ ws) (If t then 0 else suc (index_of a (names_of xs))) ≡ some w
          → (among_names a (names_of xs) ≡ true → get_elem? ws (index_of a (names_of xs)) ≡ some w
          → (cell_in a (pair_up xs (map (seen_v gs) ws)) ≡ some (assigned (seen_v gs w)))
          × ((u : Value) → put_in a (assigned (seen_v gs u)) (pair_up xs (map (seen_v gs) ws)) ≡ pair_up xs (map (seen_v gs) (put ws (index_of a (names_of xs)) u))))
          → ((If t then some (assigned (seen_v gs v)) else cell_in a (pair_up xs (map (seen_v gs) ws))) ≡ some (assigned (seen_v gs w)))
          × ((u : Value) → (If t then slot a (assigned (seen_v gs u)) ∷ pair_up xs (map (seen_v gs) ws) else slot x.name
          (assigned (seen_v gs v)) ∷ put_in a (assigned (seen_v gs u)) (pair_up xs (map (seen_v gs) ws)))
          ≡ pair_up (x ∷ xs) (map (seen_v gs) (put (v ∷ ws) (If t then 0 else suc (index_of a (names_of xs))) u)))
      pick true t h e f =
          let z : v ≡ w = cc e in (
            ap (λ y. some (assigned (seen_v gs y))) z,
            λ u. ap (λ y. slot y (assigned (seen_v gs u)) ∷ pair_up xs (map (seen_v gs) ws)) (sym (eqb→eq x.name a (subst T (sym t) tt))),
          )
      pick false t h e f = let q = f h e in (q.0, λ u. ap (λ l. slot x.name (assigned (seen_v gs v)) ∷ l) (q.1 u))

  got : (rs : List Made) (n : ℕ) (r : Made) → get_elem? rs n ≡ some r → get_elem? (map (seen_r gs) rs) n ≡ some (seen_r gs r)
  got [] n r h = let z : ◌≡◌ {A = ℕ} 0 1 = cc h in absurd (omega arith)
  got (x ∷ rs) zero r h = let z : x ≡ r = cc h in ap (λ y. some (seen_r gs y)) z
  got (x ∷ rs) (suc n) r h = got rs n r h

  put_map : (rs : List Made) (n : ℕ) (r : Made) → map (seen_r gs) (put rs n r) ≡ put (map (seen_r gs) rs) n (seen_r gs r)
  put_map [] n r = refl
  put_map (x ∷ rs) zero r = refl
  put_map (x ∷ rs) (suc n) r = ap (λ l. seen_r gs x ∷ l) (put_map rs n r)

  add-map : (rs : List Made) (r : Made) → map (seen_r gs) (rs ++ (r ∷ [])) ≡ map (seen_r gs) rs ++ (seen_r gs r ∷ [])
  add-map [] r = refl
  add-map (x ∷ rs) r = ap (λ l. seen_r gs x ∷ l) (add-map rs r)

  len-map : (rs : List Made) → length (map (seen_r gs) rs) ≡ length rs
  len-map [] = refl
  len-map (x ∷ rs) = ap suc (len-map rs)

abbrev pub with_made : List Made → Data → Data
with_made rs D = record { shared = record { records = rs }; cells = D.cells; lowest = D.lowest; trace = D.trace; taken = D.taken }

is-it : (c d : ℕ) → (b : Bool) → eqb c d ≡ b → b ≡ true → c ≡ d
is-it c d b e h = eqb→eq c d (subst T (sym (e ∙ h)) tt)

module _ (W : Setting) (gs : List Global) (C : Work) {n : ℕ} {L : ℕ → Store → Conf → Type 0} where
  -- the field that an op works on: by its number in the machine, by its name in the tree
  on-field : {A : Type 0} {F : A → Store → Conf → Type 0} (Γ : List Around) (c x : ℕ) (v : Value) (a : ℕ) (vs : List Value) (D : Data)
      (f : ℕ → Made → Ty → Value → Stepped) (g : ℕ → TreeMade → Result A)
      → ((i : ℕ) (m : Made) (t : Ty) (w : Value) → get_elem? D.shared.records i ≡ some m → m.class ≡ c → get_elem? m.fields x ≡ some w
      → Meets W n L F (stepped (f i m t w) D.trace D.taken) (g i (seen_r gs m)))
      → Meets W n L F (stepped (on_field W.macro c x v (here_of W gs C.body C.below a vs (held_in Γ) D) f) D.trace D.taken) (on_record (seen_v gs v) (place_of W gs C Γ) (seen gs Γ D) g)
  on-field {A} {F} Γ c x v a vs D f g h = rw (seen-reference gs v) (refers (as_reference v))
    where
      here : Here
      here = here_of W gs C.body C.below a vs (held_in Γ) D

      field : ℕ → Made → Stepped
      field i m = given (field_ty W.macro c x) bad_type (λ t. given (get_elem? m.fields x) bad_type (λ w. f i m t w))

      checked : (i : ℕ) (m : Made) (b : Bool) → eqb m.class c ≡ b → get_elem? D.shared.records i ≡ some m
          → Meets W n L F (stepped (demand b bad_record (field i m)) D.trace D.taken) (g i (seen_r gs m))
      checked i m false u e = lost
      checked i m true u e =
          had D.trace D.taken (field_ty W.macro c x) bad_type _ (λ t z. had D.trace D.taken (get_elem? m.fields x) bad_type _ (λ w j. h i m t w e (is-it m.class c true u refl) j))

      made : (o : Option ℕ) → Meets W n L F (stepped (on_made c o here field) D.trace D.taken) (tree_made o (place_of W gs C Γ) (seen gs Γ D) g)
      made none = conds W gs C.body C.below field_of_null Γ a vs D
      made (some i) = had D.trace D.taken (get_elem? D.shared.records i) bad_record _ (λ m e. rw (got gs D.shared.records i m e) (checked i m (eqb m.class c) refl e))

      refers : (o : Option Reference) → Meets W n L F (stepped (given o bad_type (λ r. demand (eqb r.class c) bad_record (on_made c r.target here field))) D.trace D.taken)
          (asked (keep o (λ r. some (named gs r))) (λ r. tree_made r.target (place_of W gs C Γ) (seen gs Γ D) g))
      refers none = lost
      refers (some r) = demanded D.trace D.taken (eqb r.class c) bad_record _ (made r.target)

  pub gets : (Γ : List Around) (f c x : ℕ) (w : Value) (a : ℕ) (st : List Value) (D : Data) → OkField gs f c x → fetch W.macro C.body a ≡ some (get_field c x) → Holds C D
      → Meets W n L (Arrives W gs C (One W gs C) (Sees W gs C Γ) (held_in Γ) (suc a) st) (at-work W gs C a (w ∷ st) (held_in Γ) D) (do_field f (seen_v gs w) (place_of W gs C Γ) (seen gs Γ D))
  unfolding act machine_get do_field
  gets Γ f c x v a st D o p k = op-at W gs C.body C.below (get_field c x) a (v ∷ st) (held_in Γ) D p (on-field Γ c x v a (v ∷ st) D _ _ (λ i m t w e j g.
      let q : cell_in f (pair_up (class_of (classes_of gs) m.class).fields (map (seen_v gs) m.fields)) ≡ some (assigned (seen_v gs w)) =
      subst (λ j. cell_in f (pair_up (class_of (classes_of gs) j).fields (map (seen_v gs) m.fields)) ≡ some (assigned (seen_v gs w))) (sym j) (o m.fields w g).0 in
      rw q (demanded D.trace D.taken (fits (ty_of w) t) bad_type _ (goes-on W gs C.body C.below [] (w ∷ st) a (v ∷ st) (held_in Γ) D (given-one W gs C Γ w D k)))))

  pub puts : (Γ : List Around) (f c x : ℕ) (v w : Value) (a : ℕ) (st : List Value) (D : Data) → OkField gs f c x → fetch W.macro C.body a ≡ some (put_field c x) → Holds C D
      → Meets W n L (Arrives W gs C (Nothing W gs C) (Sees W gs C Γ) (held_in Γ) (suc a) st) (at-work W gs C a (w ∷ (v ∷ st)) (held_in Γ) D)
      (do_put_field f (seen_v gs v) (seen_v gs w) (place_of W gs C Γ) (seen gs Γ D))
  unfolding act machine_put do_put_field
  puts Γ f c x v w a st D o p k = op-at W gs C.body C.below (put_field c x) a (w ∷ (v ∷ st)) (held_in Γ) D p (on-field Γ c x v a (w ∷ (v ∷ st)) D _ _ (λ i m t u e j g.
      let q : put_in f (assigned (seen_v gs w)) (pair_up (class_of (classes_of gs) m.class).fields (map (seen_v gs) m.fields))
      ≡ pair_up (class_of (classes_of gs) m.class).fields (map (seen_v gs) (put m.fields x w)) =
      subst (λ j. put_in f (assigned (seen_v gs w)) (pair_up (class_of (classes_of gs) j).fields (map (seen_v gs) m.fields))
      ≡ pair_up (class_of (classes_of gs) j).fields (map (seen_v gs) (put m.fields x w))) (sym j) ((o m.fields u g).1 w) in
      let new : Made = record { class = m.class; fields = put m.fields x w } in
      rw q (rw (sym (put_map gs D.shared.records i new))
      (demanded D.trace D.taken (fits (ty_of w) t) bad_type _ (demanded D.trace D.taken (leb (length st) 32) bad_frame _
      (arrived W gs C Γ tt (with_made (put D.shared.records i new) D) k))))))

  -- a new record
  pub makes : (Γ : List Around) (c k : ℕ) (xs : List Typed) (ts : List Ty) (a : ℕ) (top st : List Value) (D : Data)
      → fetch W.macro C.body a ≡ some (make k) → get_elem? W.macro.classes k ≡ some ts → length top ≡ length ts
      → (class_of (classes_of gs) k).name ≡ c → (class_of (classes_of gs) k).fields ≡ xs → Holds C D
      → Meets W n L (Arrives W gs C (One W gs C) (Sees W gs C Γ) (held_in Γ) (suc a) st) (at-work W gs C a (top ++ st) (held_in Γ) D)
      (do_make c (some xs) (map (seen_v gs) (onto top [])) (place_of W gs C Γ) (seen gs Γ D))
  unfolding act machine_make do_make
  makes Γ c k xs ts a top st D p t l e f h = op-at W gs C.body C.below (make k) a (top ++ st) (held_in Γ) D p
      (rw (t, sym l) (rw (pops top st [] _) (demanded D.trace D.taken (all_fit (tys_of (onto top [])) ts) bad_type _
      (rw (len-map gs D.shared.records) (pick (ltb (length D.shared.records) 256))))))
    where
      new : Made
      new = record { class = k; fields = onto top [] }

      pick : (b : Bool) → Meets W n L (Arrives W gs C (One W gs C) (Sees W gs C Γ) (held_in Γ) (suc a) st)
          (stepped (If b then goes_on [] (ref k (some (length D.shared.records)) ∷ st)
          (machine_with (D.shared.records ++ (record { class = k; fields = onto top [] } ∷ []))
          (here_of W gs C.body C.below a (top ++ st) (held_in Γ) D)) else condition too_many_records
          (here_of W gs C.body C.below a (top ++ st) (held_in Γ) D)) D.trace D.taken)
          (If b then done (ref c (some (length D.shared.records)))
          (with_records (map (seen_r gs) D.shared.records ++ (record { fields = pair_up xs (map (seen_v gs) (onto top [])) } ∷ []))
          (seen gs Γ D)) else tree_condition too_many_records (place_of W gs C Γ) (seen gs Γ D))
      pick true = demanded D.trace D.taken (leb (length (ref k (some (length D.shared.records)) ∷ st)) 32) bad_frame _
          (subst₂ (λ d rs. Meets W n L (Arrives W gs C (One W gs C) (Sees W gs C Γ) (held_in Γ) (suc a) st)
          (at-work W gs C (suc a) (ref k (some (length D.shared.records)) ∷ st) (held_in Γ)
          (with_made (D.shared.records ++ (record { class = k; fields = onto top [] } ∷ [])) D))
          (done (ref d (some (length D.shared.records))) (with_records rs (seen gs Γ D)))) e
          (add-map gs D.shared.records (record { class = k; fields = onto top [] })
          ∙ ap (λ ys. map (seen_r gs) D.shared.records ++ (record { fields = pair_up ys (map (seen_v gs) (onto top [])) } ∷ [])) f)
          (given-one W gs C Γ (ref k (some (length D.shared.records))) (with_made (D.shared.records ++ (record { class = k; fields = onto top [] } ∷ [])) D) h))
      pick false = conds W gs C.body C.below too_many_records Γ a (top ++ st) D

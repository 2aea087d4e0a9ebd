-- Records and cells that change: what was sound stays sound.
use Rattle.std.specs.Prelude.{◌≡◌, true, length, set as put}
use Rattle.std.proofs.Math.Path.{refl, ap}
use Rattle.std.proofs.Common.{sym, subst, arith, eqb-true, eq-eqb}
use mathlib.Core.List.{List, [], ◌∷◌, ◌++◌, map}
use Rattle.std.proofs.Math.Option.{Option, none, some}
use Prim.Native.Nat.{ℕ, zero, suc, ◌≤◌}
use Rattle.std.proofs.Math.ListN.{get_elem?}
use Rattle.logic.specs.Lists.{all}
use Rattle.values.specs.Types.{Ty, sames}
use Rattle.values.specs.Values.{Value, int, log, bit, ref, tys_of, Cell, assigned, ty_of_cell}
use Rattle.bytecode.specs.Macro.{Macro}
use Rattle.bytecode.specs.Instructions.{Owner, own, root, body_at, cells_of}
use Rattle.bytecode.specs.Machine.{Activation, Made, Shared, all_holds, with_cells, root_of, put_lowest, put_cells}
use Rattle.bytecode.specs.Sound.{class_is, sound_value, typed_values, sound_cell, of_class, sound_record}
use Rattle.logic.specs.Tests.{never, both, halves}
use Rattle.bytecode_safety.specs.Lists.{all_weaker, all-at}
use Rattle.bytecode_safety.specs.States.{Frame, Waiting, Around}

-- whose cells an op names, in body k
abbrev pub owner_body : Owner → ℕ → ℕ
owner_body own k = k
owner_body root k = 0

-- ── records ──
-- values that are sound with some records are with others
abbrev pub Keeps : List Made → List Made → Type 0
Keeps rs qs = (v : Value) → sound_value rs v ≡ true → sound_value qs v ≡ true

keeps-classes : (rs qs : List Made) → ((c n : ℕ) → class_is c (get_elem? rs n) ≡ true → class_is c (get_elem? qs n) ≡ true) → Keeps rs qs
unfolding sound_value
keeps-classes rs qs f (int z) h = h
keeps-classes rs qs f (log b) h = h
keeps-classes rs qs f (bit n) h = h
keeps-classes rs qs f (ref c none) h = refl
keeps-classes rs qs f (ref c (some n)) h = f c n h

class-append : (rs qs : List Made) (c n : ℕ) → class_is c (get_elem? rs n) ≡ true → class_is c (get_elem? (rs ++ qs) n) ≡ true
class-append [] qs c n h = never h
class-append (r ∷ rs) qs c zero h = h
class-append (r ∷ rs) qs c (suc n) h = class-append rs qs c n h

pub keeps-append : (rs qs : List Made) → Keeps rs (rs ++ qs)
keeps-append rs qs = keeps-classes rs (rs ++ qs) (class-append rs qs)

class-put : (rs : List Made) (i : ℕ) (q r : Made) → get_elem? rs i ≡ some q → r.class ≡ q.class
    → (c n : ℕ) → class_is c (get_elem? rs n) ≡ true → class_is c (get_elem? (put rs i r) n) ≡ true
class-put [] i q r e d c n h = never h
class-put (x ∷ rs) zero q r e d c zero h = let y : x ≡ q = cc in rw (d, ← y) h
class-put (x ∷ rs) zero q r e d c (suc n) h = h
class-put (x ∷ rs) (suc i) q r e d c zero h = h
class-put (x ∷ rs) (suc i) q r e d c (suc n) h = class-put rs i q r e d c n h

pub keeps-put : (rs : List Made) (i : ℕ) (q r : Made) → get_elem? rs i ≡ some q → r.class ≡ q.class → Keeps rs (put rs i r)
keeps-put rs i q r e d = keeps-classes rs (put rs i r) (class-put rs i q r e d)

-- the record that was made last
pub last_made : (rs : List Made) (r : Made) → class_is r.class (get_elem? (rs ++ (r ∷ [])) (length rs)) ≡ true
last_made [] r = eq-eqb r.class r.class refl
last_made (x ∷ rs) r = last_made rs r

-- a reference that is sound and not null
pub made_at : (rs : List Made) (c n : ℕ) → sound_value rs (ref c (some n)) ≡ true → (q : Made) × (get_elem? rs n ≡ some q) × (q.class ≡ c)
unfolding sound_value
made_at rs c n h = go (get_elem? rs n) refl h
  where
    go : (o : Option Made) → get_elem? rs n ≡ o → class_is c o ≡ true → (q : Made) × (o ≡ some q) × (q.class ≡ c)
    go none e h = never h
    go (some q) e h = (q, refl, eqb-true q.class c h)

module _ (m : Macro) where
  of-class : (rs : List Made) (r : Made) (ts : List Ty) → get_elem? m.classes r.class ≡ some ts → sound_record m rs r ≡ true
      → typed_values rs r.fields ts ≡ true
  of-class rs r ts e h = rw e at h

  -- the record of class c at a place has fields of the class's types
  pub record-typed : (rs : List Made) (n : ℕ) (q : Made) (ts : List Ty) → all (sound_record m rs) rs ≡ true → get_elem? rs n ≡ some q
      → get_elem? m.classes q.class ≡ some ts → typed_values rs q.fields ts ≡ true
  record-typed rs n q ts a e d = of-class rs q ts d (all-at (sound_record m rs) rs n q a e)

  pub record-sound : (rs : List Made) (q : Made) (ts : List Ty) → get_elem? m.classes q.class ≡ some ts → typed_values rs q.fields ts ≡ true
      → sound_record m rs q ≡ true
  record-sound rs q ts d h = rw d h

  module _ (rs qs : List Made) (keeps : Keeps rs qs) where
    keeps_typed : (vs : List Value) (ts : List Ty) → typed_values rs vs ts ≡ true → typed_values qs vs ts ≡ true
    keeps_typed vs ts h =
        let a = halves (sames (tys_of vs) ts) (all (sound_value rs) vs) h in
        both a.0 (all_weaker (sound_value rs) (sound_value qs) keeps vs a.1)

    keeps-record : (r : Made) → sound_record m rs r ≡ true → sound_record m qs r ≡ true
    keeps-record r h = go (get_elem? m.classes r.class) h
      where
        go : (o : Option (List Ty)) → of_class rs r o ≡ true → of_class qs r o ≡ true
        go none h = never h
        go (some ts) h = keeps_typed r.fields ts h

    pub keeps-records : (xs : List Made) → all (sound_record m rs) xs ≡ true → all (sound_record m qs) xs ≡ true
    keeps-records xs h = all_weaker (sound_record m rs) (sound_record m qs) keeps-record xs h

    keeps-cell : (c : Cell) → sound_cell rs c ≡ true → sound_cell qs c ≡ true
    keeps-cell (assigned v) h = keeps v h

    keeps-frame : (f : Activation) → Frame m rs f → Frame m qs f
    keeps-frame f x = record {
      groups = x.groups;
      types = x.types;
      values = all_weaker (sound_cell rs) (sound_cell qs) keeps-cell f.cells x.values;
    }

    keeps-waiting : (k : ℕ) (fs : List Activation) → Waiting m rs k fs → Waiting m qs k fs
    keeps-waiting k [] h = h
    keeps-waiting k (f ∷ fs) h = (
      record {
        calls = h.0.calls;
        stands = record {
          allowed = h.0.stands.allowed;
          operands = all_weaker (sound_value rs) (sound_value qs) keeps f.operands h.0.stands.operands;
          frame = keeps-frame f h.0.stands.frame;
        };
      },
      keeps-waiting f.body fs h.1,
    )

  pub around-records : (s t : Shared) → Keeps s.records t.records → (f : Activation) (fs : List Activation)
      → Around m (record { shared = s; top = f; below = fs }) → length t.records ≤ 256
      → all (sound_record m t.records) t.records ≡ true
      → Around m (record { shared = t; top = f; below = fs })
  around-records s t keeps f fs r n a =
      record {
        few = r.few;
        few-records = n;
        made = a;
        frame = keeps-frame s.records t.records keeps f r.frame;
        below-waits = keeps-waiting s.records t.records keeps f.body fs r.below-waits;
      }

  -- ── cells ──
  module _ (sh : Shared) where
    abbrev rs : List Made
    rs = sh.records

    -- the root is the lowest
    pub root-frame : (f : Activation) (fs : List Activation) → Frame m rs f → Waiting m rs f.body fs → ((root_of f fs).body ≡ 0)
        × Frame m rs (root_of f fs)
    unfolding root_of
    root-frame f [] x h = (h, x)
    root-frame f (g ∷ gs) x h = root-frame g gs h.0.stands.frame h.1

    module _ (cs : List Cell) where
      put-frame : (f : Activation) → Frame m rs f → map ty_of_cell cs ≡ cells_of (body_at m f.body) → all (sound_cell rs) cs ≡ true
          → Frame m rs (with_cells cs f)
      put-frame f x t v = record { groups = x.groups; types = t; values = v }

      module _ (types : map ty_of_cell cs ≡ cells_of (body_at m 0)) (values : all (sound_cell rs) cs ≡ true) where
        root-types : (k : ℕ) → k ≡ 0 → map ty_of_cell cs ≡ cells_of (body_at m k)
        root-types k e = subst (λ x. map ty_of_cell cs ≡ cells_of (body_at m x)) (sym e) types

        put-waiting : (k : ℕ) (fs : List Activation) → Waiting m rs k fs → Waiting m rs k (put_lowest cs fs)
        unfolding put_lowest
        put-waiting k [] h = h
        put-waiting k (g ∷ []) h = (
          record {
            calls = h.0.calls;
            stands = record {
              allowed = h.0.stands.allowed;
              operands = h.0.stands.operands;
              frame = put-frame g h.0.stands.frame (root-types g.body h.1) values;
            };
          },
          h.1,
        )
        put-waiting k (g ∷ (x ∷ xs)) h = (h.0, put-waiting g.body (x ∷ xs) h.1)

        lowest-length : (fs : List Activation) → length (put_lowest cs fs) ≡ length fs
        unfolding put_lowest
        lowest-length [] = refl
        lowest-length (g ∷ []) = refl
        lowest-length (g ∷ (x ∷ xs)) = ap suc (lowest-length (x ∷ xs))

        around-root : (f : Activation) (fs : List Activation) → Around m (record { shared = sh; top = f; below = fs })
            → Around m (put_cells root cs (record { shared = sh; top = f; below = fs }))
        unfolding put_lowest
        around-root f [] r =
            record {
              few = r.few;
              few-records = r.few-records;
              made = r.made;
              frame = put-frame f r.frame (root-types f.body r.below-waits) values;
              below-waits = r.below-waits;
            }
        around-root f (g ∷ gs) r =
            record {
              few = omega (arith, r.few, lowest-length (g ∷ gs));
              few-records = r.few-records;
              made = r.made;
              frame = r.frame;
              below-waits = put-waiting f.body (g ∷ gs) r.below-waits;
            }

      lowest-holds : (fs : List Activation) → all_holds (put_lowest cs fs) ≡ all_holds fs
      unfolding put_lowest all_holds
      lowest-holds [] = refl
      lowest-holds (g ∷ []) = refl
      lowest-holds (g ∷ (x ∷ xs)) = ap (λ gs. g.holds ++ gs) (lowest-holds (x ∷ xs))

      -- the holds stay as they are
      pub put_holds : (o : Owner) (f : Activation) (fs : List Activation)
          → all_holds ((put_cells o cs (record { shared = sh; top = f; below = fs })).top ∷ (put_cells o cs
          (record { shared = sh; top = f; below = fs })).below) ≡ all_holds (f ∷ fs)
      unfolding all_holds
      put_holds own f fs = refl
      put_holds root f [] = ap (λ gs. f.holds ++ gs) (lowest-holds [])
      put_holds root f (g ∷ gs) = ap (λ gs. f.holds ++ gs) (lowest-holds (g ∷ gs))

      -- the top stands where it stood
      pub put-stands : (P : ℕ → ℕ → List ℕ → Type 0) (o : Owner) (f : Activation) (fs : List Activation) → P f.body f.address f.holds
          → P (put_cells o cs (record { shared = sh; top = f; below = fs })).top.body
          (put_cells o cs (record { shared = sh; top = f; below = fs })).top.address
          (put_cells o cs (record { shared = sh; top = f; below = fs })).top.holds
      put-stands P own f fs h = h
      put-stands P root f [] h = h
      put-stands P root f (g ∷ gs) h = h

    pub around-put : (o : Owner) (cs : List Cell) (f : Activation) (fs : List Activation) → Around m (record { shared = sh; top = f; below = fs })
        → map ty_of_cell cs ≡ cells_of (body_at m (owner_body o f.body)) → all (sound_cell rs) cs ≡ true
        → Around m (put_cells o cs (record { shared = sh; top = f; below = fs }))
    around-put own cs f fs r t v =
        record { few = r.few; few-records = r.few-records; made = r.made; frame = put-frame cs f r.frame t v; below-waits = r.below-waits }
    around-put root cs f fs r t v = around-root cs t v f fs r

-- Operands that fit those asked for, one after the other.
use Rattle.std.specs.Prelude.{◌≡◌, true, List, [], ◌∷◌, ◌++◌}
use Rattle.values.specs.Types.{Ty, fits, all_fit}
use Rattle.logic.specs.Tests.{never, halves}
use Rattle.bytecode_laws.specs.Terms.{Takes}

-- nothing is asked for
pub takes_none : (found under : List Ty) → Takes [] found under → found ≡ under
unfolding all_fit
takes_none found under t = go t.taken t.fit t.parts
  where
    go : (us : List Ty) → all_fit us [] ≡ true → found ≡ us ++ under → found ≡ under
    go [] f e = e
    go (u ∷ us) f e = never f

-- one is, and perhaps more
pub takes_first : (u t : Ty) (ts found under : List Ty) → Takes (t ∷ ts) (u ∷ found) under → (fits u t ≡ true) × Takes ts found under
unfolding all_fit
takes_first u t ts found under x = go x.taken x.fit x.parts
  where
    go : (us : List Ty) → all_fit us (t ∷ ts) ≡ true → (u ∷ found) ≡ us ++ under → (fits u t ≡ true) × Takes ts found under
    go [] f e = never f
    go (v ∷ us) f e =
        let q = halves (fits v t) (all_fit us ts) f in
        let same : u ≡ v = cc in
        (rw same q.0, record { taken = us; fit = q.1; parts = cc })

pub takes_one : (u t : Ty) (found under : List Ty) → Takes (t ∷ []) (u ∷ found) under → found ≡ under
takes_one u t found under x = takes_none found under (takes_first u t [] found under x).1

-- something is found where something is asked for
pub takes-some : (t : Ty) (ts found under : List Ty) → Takes (t ∷ ts) found under → (u : Ty) × (us : List Ty) × (found ≡ u ∷ us)
unfolding all_fit
takes-some t ts found under x = go x.taken x.fit x.parts
  where
    go : (us : List Ty) → all_fit us (t ∷ ts) ≡ true → found ≡ us ++ under → (u : Ty) × (vs : List Ty) × (found ≡ u ∷ vs)
    go [] f e = never f
    go (v ∷ us) f e = (v, us ++ under, e)

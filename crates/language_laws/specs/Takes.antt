-- What a reader takes, one law for each way to make a reader of readers.
use Rattle.std.specs.Prelude.{◌≡◌, refl, true, List, [], ◌∷◌, ◌++◌, ℕ, suc, ◌≤◌, max}
use Rattle.std.proofs.Common.{◌∙◌, append_assoc, arith}
use Rattle.logic.specs.Lists.{all}
use Rattle.language.specs.Table.{Entry, in_layout, Reader, took, after, made, two, three, four, repeated, first}
use Rattle.logic.specs.Tests.{both_left, both_right}
use Rattle.logic.specs.ListLaws.{all_append}

-- ── entries that keep to the layout, nested no deeper than so ──
pub record Fits (d : ℕ) (us : List Entry) (n : ℕ) : Type 0 where
  pub layout : all in_layout us ≡ true
  pub depth : n ≤ d

pub fits_head : {d n : ℕ} {e : Entry} {us : List Entry} → Fits d (e ∷ us) n → in_layout e ≡ true
unfolding all
fits_head {e = e} {us = us} h = both_left (in_layout e) (all in_layout us) h.layout

pub fits-tail : {d n : ℕ} {e : Entry} {us : List Entry} → Fits (suc d) (e ∷ us) (suc n) → Fits d us n
unfolding all
fits-tail {e = e} {us = us} h = record { layout = both_right (in_layout e) (all in_layout us) h.layout; depth = omega arith }

pub fits-left : {d : ℕ} (n m : ℕ) (us vs : List Entry) → Fits d (us ++ vs) (max n m) → Fits d us n
fits-left n m us vs h =
    record { layout = both_left (all in_layout us) (all in_layout vs) (rw all_append at h.layout); depth = omega arith }

pub fits-right : {d : ℕ} (n m : ℕ) (us vs : List Entry) → Fits d (us ++ vs) (max n m) → Fits d vs m
fits-right n m us vs h =
    record { layout = both_right (all in_layout us) (all in_layout vs) (rw all_append at h.layout); depth = omega arith }

pub fits-cons : {d n : ℕ} {e : Entry} {us : List Entry} → in_layout e ≡ true → Fits d us n → Fits (suc d) (e ∷ us) (suc n)
unfolding all
fits-cons l h = record { layout = rw l h.layout; depth = omega arith }

pub fits-join : {d n m : ℕ} {us vs : List Entry} → Fits d us n → Fits d vs m → Fits d (us ++ vs) (max n m)
fits-join {us = us} {vs = vs} h k = record { layout = rw (all_append in_layout us vs, h.layout) k.layout; depth = omega arith }

pub fits-none : {d : ℕ} → Fits d [] 0
unfolding all
fits-none = record { layout = refl; depth = omega arith }

-- ── what a reader takes ──
pub record Takes {A : Type 0} (r : Reader A) (us : List Entry) (x : A) : Type 0 where
  pub takes : (rest : List Entry) → r (us ++ rest) ≡ took x rest

pub takes-as : {A : Type 0} {r : Reader A} {us : List Entry} {x y : A} → Takes r us x → x ≡ y → Takes r us y
takes-as h e = rw e at h

-- by a reader that reads the same
pub takes-eq : {A : Type 0} {r q : Reader A} {us : List Entry} {x : A} → Takes r us x → ((es : List Entry) → q es ≡ r es) → Takes q us x
takes-eq {us = us} h e = record { takes = λ rest. e (us ++ rest) ∙ h.takes rest }

pub takes-here : {A : Type 0} {x : A} → Takes (took x) [] x
takes-here = record { takes = λ rest. refl }

pub takes-made : {A D : Type 0} {r : Reader A} {us : List Entry} {x : A} (f : A → D) → Takes r us x → Takes (made f r) us (f x)
unfolding after
takes-made f h = record { takes = λ rest. rw (h.takes rest) }

-- one after the other
pub takes-after : {A D : Type 0} {r : Reader A} {us vs : List Entry} {x : A} {y : D} (f : A → Reader D) → Takes r us x → Takes (f x) vs y
    → Takes (λ es. after (r es) f) (us ++ vs) y
unfolding after
takes-after {us = us} {vs = vs} f h k = record { takes = λ rest. rw (append_assoc us vs rest, h.takes (vs ++ rest)) (k.takes rest) }

-- where each takes its entries if they fit
pub takes-then : {A D : Type 0} {r : Reader A} {us vs : List Entry} {x : A} {y : D} {d n m : ℕ} (f : A → Reader D)
    → Fits d (us ++ vs) (max n m) → (Fits d us n → Takes r us x) → (Fits d vs m → Takes (f x) vs y)
    → Takes (λ es. after (r es) f) (us ++ vs) y
takes-then {us = us} {vs = vs} {n = n} {m = m} f g h k = takes-after f (h (fits-left n m us vs g)) (k (fits-right n m us vs g))

pub takes_two : {A B D : Type 0} {r : Reader A} {q : Reader B} {us vs : List Entry} {x : A} {y : B} {d n m : ℕ} (f : A → B → D)
    → Fits d (us ++ vs) (max n m) → (Fits d us n → Takes r us x) → (Fits d vs m → Takes q vs y) → Takes (two f r q) (us ++ vs) (f x y)
takes_two {q = q} {x = x} f g h k = takes-then (λ z. made (f z) q) g h (λ v. takes-made (f x) (k v))

pub takes-three : {A B C D : Type 0} {r : Reader A} {q : Reader B} {p : Reader C} {us vs ws : List Entry} {x : A} {y : B} {z : C} {d n m l : ℕ} (f : A → B → C → D)
    → Fits d (us ++ (vs ++ ws)) (max n (max m l)) → (Fits d us n → Takes r us x) → (Fits d vs m → Takes q vs y) → (Fits d ws l → Takes p ws z) → Takes (three f r q p) (us ++ (vs ++ ws)) (f x y z)
takes-three {q = q} {p = p} {x = x} f g h k j = takes-then (λ z. two (f z) q p) g h (λ v. takes_two (f x) v k j)

pub takes-four : {A B C D E : Type 0} {r : Reader A} {q : Reader B} {p : Reader C} {o : Reader D} {us vs ws zs : List Entry} {x : A} {y : B} {z : C} {t : D} {d n m l k : ℕ}
    (f : A → B → C → D → E) → Fits d (us ++ (vs ++ (ws ++ zs))) (max n (max m (max l k))) → (Fits d us n → Takes r us x) → (Fits d vs m → Takes q vs y)
    → (Fits d ws l → Takes p ws z) → (Fits d zs k → Takes o zs t) → Takes (four f r q p o) (us ++ (vs ++ (ws ++ zs))) (f x y z t)
takes-four {q = q} {p = p} {o = o} {x = x} f g h k j i = takes-then (λ z. three (f z) q p o) g h (λ v. takes-three (f x) v k j i)

pub takes_none : {A : Type 0} (r : Reader A) → Takes (repeated 0 r) [] []
unfolding repeated
takes_none r = record { takes = λ rest. refl }

pub takes-more : {A : Type 0} {r : Reader A} {us vs : List Entry} {x : A} {xs : List A} {d n m : ℕ} (l : ℕ) → Fits d (us ++ vs) (max n m)
    → (Fits d us n → Takes r us x) → (Fits d vs m → Takes (repeated l r) vs xs) → Takes (repeated (suc l) r) (us ++ vs) (x ∷ xs)
unfolding repeated
takes-more l g h k = takes_two (λ x xs. x ∷ xs) g h k

pub takes_first : {A : Type 0} {d n : ℕ} {e : Entry} {us : List Entry} {x : A} (f : Entry → Reader A) → Fits (suc d) (e ∷ us) (suc n)
    → (Fits d us n → Takes (f e) us x) → Takes (first f) (e ∷ us) x
unfolding first
takes_first f h k = record { takes = λ rest. rw (fits_head h) ((k (fits-tail h)).takes rest) }

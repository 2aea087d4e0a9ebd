-- What was there where a reader took something, one law for each way to make a reader of readers.
use Rattle.std.specs.Prelude.{◌≡◌, refl, Bool, true, false, List, [], ◌∷◌, ◌++◌, ℕ, zero, suc, length}
use Rattle.std.proofs.Common.{ap, append_assoc, append-nil}
use Rattle.logic.specs.Choice.{If◌then◌else◌}
use Rattle.language.specs.Table.{Entry, in_layout, Read, took, stop, Reader, after, made, two, three, four, repeated, first}
use Rattle.logic.specs.Tests.{clash}

-- entries and a part of which Q holds, and the entries left
pub record Took (es rest : List Entry) (Q : List Entry → Type 0) : Type 0 where
  pub used : List Entry
  pub split : es ≡ used ++ rest
  pub holds : Q used

abbrev pub Claim : Type 0 → Type 1
Claim A = List Entry → A → Type 0

pub record Yields {A : Type 0} (r : Reader A) (Q : Claim A) : Type 0 where
  pub yields : (es rest : List Entry) (x : A) → r es ≡ took x rest → Took es rest (λ us. Q us x)

-- what a reader took, and what was read after it
pub record Taken {A B : Type 0} (s : Read A) (f : A → Reader B) (y : B) (rest : List Entry) : Type 0 where
  pub value : A
  pub middle : List Entry
  pub before : s ≡ took value middle
  pub next : f value middle ≡ took y rest

pub split_after : {A B : Type 0} (s : Read A) (f : A → Reader B) (y : B) (rest : List Entry) → after s f ≡ took y rest → Taken s f y rest
unfolding after
split_after (took x es) f y rest h = record { value = x; middle = es; before = refl; next = h }
split_after (stop es) f y rest h = clash (cc)

joined : {es middle : List Entry} (us vs rest : List Entry) → es ≡ us ++ middle → middle ≡ vs ++ rest → es ≡ us ++ vs ++ rest
joined us vs rest p q = rw (append_assoc us vs rest, ← q) p

pub yields-here : {A : Type 0} {T : Claim A} {x : A} → T [] x → Yields (took x) T
yields-here {T = T} {x = x} h =
    record { yields = λ es rest y e. let p : x ≡ y = cc in let q : es ≡ rest = cc in record { used = []; split = q; holds = rw p at h } }

pub yields-stop : {A : Type 0} {T : Claim A} {f : List Entry → List Entry} → Yields {A = A} (λ es. stop (f es)) T
yields-stop = record { yields = λ es rest y e. clash (cc) }

pub yields-if : {A : Type 0} {r q : Reader A} {T : Claim A} (b : Bool) → (b ≡ true → Yields r T) → (b ≡ false → Yields q T)
    → Yields (λ es. If b then r es else q es) T
yields-if true h k = h refl
yields-if false h k = k refl

module _ {A D : Type 0} {r : Reader A} {Q : Claim A} {T : Claim D} where
  pub yields-after : (f : A → Reader D) → Yields r Q → ((us : List Entry) (x : A) → Q us x → Yields (f x) (λ vs y. T (us ++ vs) y))
      → Yields (λ es. after (r es) f) T
  yields-after f h g =
      record {
        yields = λ es rest y e.
            let t = split_after (r es) f y rest e in
            let a = h.yields es t.middle t.value t.before in
            let b = (g a.used t.value a.holds).yields t.middle rest y t.next in
            record { used = a.used ++ b.used; split = joined a.used b.used rest a.split b.split; holds = b.holds };
      }

  pub yields-made : (f : A → D) → Yields r Q → ((us : List Entry) (x : A) → Q us x → T us (f x)) → Yields (made f r) T
  yields-made f h g = yields-after (λ x. took (f x)) h (λ us x a. yields-here (rw (append-nil us) (g us x a)))

pub yields-two : {A B D : Type 0} {r : Reader A} {q : Reader B} {Q : Claim A} {R : Claim B} {T : Claim D} (f : A → B → D) → Yields r Q
    → Yields q R → ((us vs : List Entry) (x : A) (y : B) → Q us x → R vs y → T (us ++ vs) (f x y)) → Yields (two f r q) T
yields-two {q = q} f h k g = yields-after (λ x. made (f x) q) h (λ us x a. yields-made (f x) k (λ vs y b. g us vs x y a b))

pub yields-three : {A B C D : Type 0} {r : Reader A} {q : Reader B} {p : Reader C} {Q : Claim A} {R : Claim B} {S : Claim C} {T : Claim D} (f : A → B → C → D)
    → Yields r Q → Yields q R → Yields p S
    → ((us vs ws : List Entry) (x : A) (y : B) (z : C) → Q us x → R vs y → S ws z → T (us ++ (vs ++ ws)) (f x y z))
    → Yields (three f r q p) T
yields-three {q = q} {p = p} f h k l g =
    yields-after (λ x. two (f x) q p) h (λ us x a. yields-two (f x) k l (λ vs ws y z b c. g us vs ws x y z a b c))

pub yields-four : {A B C D E : Type 0} {r : Reader A} {q : Reader B} {p : Reader C} {o : Reader D} {Q : Claim A} {R : Claim B} {S : Claim C} {U : Claim D} {T : Claim E}
    (f : A → B → C → D → E) → Yields r Q → Yields q R → Yields p S → Yields o U
    → ((us vs ws zs : List Entry) (x : A) (y : B) (z : C) (t : D) → Q us x → R vs y → S ws z → U zs t → T (us ++ (vs ++ (ws ++ zs))) (f x y z t))
    → Yields (four f r q p o) T
yields-four {q = q} {p = p} {o = o} f h k l m g =
    yields-after (λ x. three (f x) q p o) h (λ us x a. yields-three (f x) k l m (λ vs ws zs y z t b c d. g us vs ws zs x y z t a b c d))

-- as many as the count says, of which P holds from the first to the last
pub yields-times : {A : Type 0} {r : Reader A} {Q : Claim A} (P : Claim (List A)) → P [] []
    → ((us vs : List Entry) (x : A) (xs : List A) → Q us x → P vs xs → P (us ++ vs) (x ∷ xs)) → Yields r Q → (n : ℕ)
    → Yields (repeated n r) (λ us xs. P us xs × (length xs ≡ n))
unfolding repeated
yields-times P none more h zero = yields-here (none, refl)
yields-times {r = r} P none more h (suc n) =
    yields-after (λ x rest. after (repeated n r rest) (λ xs. took (x ∷ xs))) h
    (λ us x a. yields-made (λ xs. x ∷ xs) (yields-times P none more h n) (λ vs xs b. (more us vs x xs a b.0, ap suc b.1)))

pub yields-first : {A : Type 0} {T : Claim A} (f : Entry → Reader A)
    → ((e : Entry) → in_layout e ≡ true → Yields (f e) (λ us x. T (e ∷ us) x)) → Yields (first f) T
unfolding first
yields-first {A} {T} f h = record { yields = at }
  where
    here : (e : Entry) (es rest : List Entry) (x : A) (b : Bool) → in_layout e ≡ b → (If b then f e es else stop (e ∷ es)) ≡ took x rest
        → Took (e ∷ es) rest (λ us. T us x)
    here e es rest x true l q =
        let t = (h e l).yields es rest x q in
        record { used = e ∷ t.used; split = ap (λ (l : List Entry). e ∷ l) t.split; holds = t.holds }
    here e es rest x false l q = clash (cc)

    at : (es rest : List Entry) (x : A) → first f es ≡ took x rest → Took es rest (λ us. T us x)
    at [] rest x q = clash (cc)
    at (e ∷ es) rest x q = here e es rest x (in_layout e) refl q

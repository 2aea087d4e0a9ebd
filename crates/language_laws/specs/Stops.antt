-- Where a reader stops, one law for each way to make a reader of readers. Beside it goes a reader that reads the same, and deeper: it takes what
-- was read up to there with some entries after it, and takes nothing that goes on with the entry there unless that is too deep.
use Rattle.std.specs.Prelude.{◌≡◌, refl, Bool, true, false, get_or, drop}
use Rattle.std.proofs.Common.{sym, subst₂, arith}
use Rattle.std.proofs.Math.Path.{ap, fun_ext}
use mathlib.Core.List.{List, [], ◌∷◌, ◌++◌, append_assoc, append-nil}
use Prim.Native.Nat.{ℕ, zero, suc, ◌+◌, ◌≤◌, ◌<◌}
use Rattle.std.proofs.Math.ListN.{length, length-append, get_or-append}
use Rattle.std.proofs.Math.Seq.{get_or-append-add}
use Rattle.logic.specs.Choice.{If◌then◌else◌}
use Rattle.language.specs.Table.{Entry, in_layout, Read, took, stop, Reader, after, made, two, three, four, repeated, first}
use Rattle.logic.specs.Tests.{clash}
use Rattle.language_laws.specs.Takes.{Takes, takes-here, takes-made, takes-after}
use Rattle.language_laws.specs.Yields.{split_after}

-- ── depths ──
-- the first n are at most 64
abbrev pub Shallow : List ℕ → ℕ → Type 0
Shallow ms n = (i : ℕ) → i < n → get_or ms i 0 ≤ 64

shallow-none : (ms : List ℕ) → Shallow ms 0
shallow-none ms i h = absurd (omega arith)

shallow-cons : {d n : ℕ} (ms : List ℕ) → d ≤ 64 → Shallow ms n → Shallow (d ∷ ms) (suc n)
shallow-cons ms h k zero i = h
shallow-cons ms h k (suc j) i = k j (omega arith)

shallow-left : {n : ℕ} (ms ns : List ℕ) → n ≤ length ms → Shallow ms n → Shallow (ms ++ ns) n
shallow-left ms ns g h i k = rw (get_or-append ms ns 0 i (omega arith)) (h i k)

shallow-append : {n m : ℕ} (ms ns : List ℕ) → n ≡ length ms → Shallow ms n → Shallow ns m → Shallow (ms ++ ns) (n + m)
shallow-append [] ns e h k i j = k i (omega arith)
shallow-append (d ∷ ms) ns e h k zero j = h zero (omega arith)
shallow-append {m = m} (d ∷ ms) ns e h k (suc i) j = shallow-append {n = length ms} {m = m} ms ns refl (λ l g. h (suc l) (omega arith)) k i (omega arith)

deep-left : (ms ns : List ℕ) (i : ℕ) → 65 ≤ get_or ms i 0 → 65 ≤ get_or (ms ++ ns) i 0
deep-left [] ns i h = absurd (omega arith)
deep-left (d ∷ ms) ns zero h = h
deep-left (d ∷ ms) ns (suc i) h = deep-left ms ns i h

-- ── what becomes of reading: r is the reader, q the one beside it, D the depths of what is read ──
-- q takes these entries as x, whatever comes after them
pub record Whole {A : Type 0} (q : Reader A) (D : A → List ℕ) (us : List Entry) (x : A) : Type 0 where
  pub takes : Takes q us x
  pub count : length us ≡ length (D x)

-- r took x
pub record Through {A : Type 0} (q : Reader A) (D : A → List ℕ) (es rest : List Entry) (x : A) : Type 0 where
  pub used : List Entry
  pub split : es ≡ used ++ rest
  pub whole : Whole q D used x
  pub shallow : Shallow (D x) (length used)

-- r stopped: entries after those used complete them to a value; a value that goes on with the entry there has it too deep
pub record Stopped {A : Type 0} (q : Reader A) (D : A → List ℕ) (es xs : List Entry) : Type 0 where
  pub used : List Entry
  pub split : es ≡ used ++ xs
  pub rest : List Entry
  pub value : A
  pub whole : Whole q D (used ++ rest) value
  pub shallow : Shallow (D value) (length used)
  pub deep : (y : Entry) (ys zs left : List Entry) (v : A) → xs ≡ y ∷ ys → q (used ++ (y ∷ zs)) ≡ took v left → 65 ≤ get_or (D v) (length used) 0

abbrev pub Fate : {A : Type 0} → Reader A → (A → List ℕ) → List Entry → Read A → Type 0
Fate q D es (took x rest) = Through q D es rest x
Fate q D es (stop xs) = Stopped q D es xs

-- something can always be read: the blank, which completes what lies before it
pub record Stops {A : Type 0} (r q : Reader A) (D : A → List ℕ) : Type 0 where
  pub entries : List Entry
  pub blank : A
  pub whole : Whole q D entries blank
  pub reads : (es : List Entry) → Fate q D es (r es)

pub stops-here : {A : Type 0} {D : A → List ℕ} (x : A) → D x ≡ [] → Stops (took x) (took x) D
stops-here {D = D} x e =
    let w : Whole (took x) D [] x = record { takes = takes-here; count = rw e } in
    record { entries = []; blank = x; whole = w; reads = λ es. record { used = []; split = refl; whole = w; shallow = shallow-none (D x) } }

pub stops-if : {A : Type 0} {r q s p : Reader A} {D : A → List ℕ} (b : Bool) → Stops r q D → Stops s p D
    → Stops (If b then r else s) (If b then q else p) D
stops-if true h k = h
stops-if false h k = k

-- one after the other
abbrev joined : {A B C : Type 0} → (A → B → C) → Reader A → (A → Reader B) → Reader C
joined f q p es = after (q es) (λ x. made (f x) (p x))

-- what was taken so has the two parts
parts : {A B C : Type 0} (f : A → B → C) (q : Reader A) (p : A → Reader B) (es left : List Entry) (v : C) → joined f q p es ≡ took v left
    → (x : A) × (y : B) × (mid : List Entry) × (q es ≡ took x mid) × (p x mid ≡ took y left) × (v ≡ f x y)
unfolding after
parts f q p es left v e =
    let a = split_after (q es) (λ x. made (f x) (p x)) v left e in
    let b = split_after (p a.value a.middle) (λ y. took (f a.value y)) v left a.next in
    let g : took (f a.value b.value) b.middle ≡ took v left = b.next in
    let m : b.middle ≡ left = cc in
    let w : v ≡ f a.value b.value = cc in
    (a.value, b.value, a.middle, a.before, rw m at b.before, w)

module _ {A B C : Type 0} {r q : Reader A} {s p : A → Reader B} {D : A → List ℕ} {E : B → List ℕ} (F : C → List ℕ) (f : A → B → C)
    (h : Stops r q D) (k : (x : A) → Stops (s x) (p x) E) (j : (x : A) (y : B) → F (f x y) ≡ D x ++ E y) where
  whole_join : {us vs : List Entry} {x : A} {y : B} → Whole q D us x → Whole (p x) E vs y → Whole (joined f q p) F (us ++ vs) (f x y)
  whole_join {us} {vs} {x} {y} a b =
      record {
        takes = takes-after (λ z. made (f z) (p z)) a.takes (takes-made (f x) b.takes);
        count = rw (j x y, length-append (D x) (E y), length-append us vs) (omega (arith, a.count, b.count));
      }

  stopped-first : {es xs : List Entry} → Stopped q D es xs → Stopped (joined f q p) F es xs
  stopped-first {es} {xs} t =
      let x = t.value in
      let y = (k x).blank in
      let n : length t.used ≤ length (D x) = omega (arith, t.whole.count, length-append t.used t.rest) in
      record {
        used = t.used;
        split = t.split;
        rest = t.rest ++ (k x).entries;
        value = f x y;
        whole = rw (append_assoc t.used t.rest (k x).entries) at (whole_join t.whole (k x).whole);
        shallow = rw (j x y) (shallow-left (D x) (E y) n t.shallow);
        deep = λ z ys zs left v e g.
            let a = parts f q p (t.used ++ (z ∷ zs)) left v g in
            rw (a.5, j a.0 a.1) (deep-left (D a.0) (E a.1) (length t.used) (t.deep z ys zs a.2 a.0 e a.3));
      }

  stopped-second : {es mid xs : List Entry} {x : A} → Through q D es mid x → Stopped (p x) E mid xs → Stopped (joined f q p) F es xs
  unfolding after
  stopped-second {es} {mid} {xs} {x} t u =
      let y = u.value in
      let us = t.used in
      let vs = u.used in
      record {
        used = us ++ vs;
        split = rw (append_assoc us vs xs, ← u.split) t.split;
        rest = u.rest;
        value = f x y;
        whole = rw (← append_assoc us vs u.rest) at (whole_join t.whole u.whole);
        shallow = rw (j x y, length-append us vs) (shallow-append (D x) (E y) t.whole.count t.shallow u.shallow);
        deep = λ z ys zs left v e g.
            let ws = vs ++ (z ∷ zs) in
            let i : joined f q p (us ++ ws) ≡ took v left = rw (append_assoc us vs (z ∷ zs)) at g in
            let a = parts f q p (us ++ ws) left v i in
            let o : a.0 ≡ x = cc (t.whole.takes.takes ws, a.3) in
            let m : a.2 ≡ ws = cc (t.whole.takes.takes ws, a.3) in
            let b : p x ws ≡ took a.1 left = cc a.4 in
            let c : length (us ++ vs) ≡ length (D x) + length vs = rw (length-append us vs, t.whole.count) in
            let w : v ≡ f x a.1 = cc a.5 in
            rw (w, j x a.1, c, get_or-append-add (D x) (E a.1) (length vs) 0) (u.deep z ys zs left a.1 e b);
      }

  through-both : {es mid rest : List Entry} {x : A} {y : B} → Through q D es mid x → Through (p x) E mid rest y → Through (joined f q p) F es rest (f x y)
  through-both {es} {mid} {rest} {x} {y} t u =
      record {
        used = t.used ++ u.used;
        split = rw (append_assoc t.used u.used rest, ← u.split) t.split;
        whole = whole_join t.whole u.whole;
        shallow = rw (j x y, length-append t.used u.used) (shallow-append (D x) (E y) t.whole.count t.shallow u.shallow);
      }

  fate-second : (es mid : List Entry) (x : A) → Through q D es mid x → (y : Read B) → Fate (p x) E mid y
      → Fate (joined f q p) F es (after y (λ z. took (f x z)))
  unfolding after
  fate-second es mid x t (took y rest) u = through-both t u
  fate-second es mid x t (stop xs) u = stopped-second t u

  fate-first : (es : List Entry) (y : Read A) → Fate q D es y → Fate (joined f q p) F es (after y (λ x. made (f x) (s x)))
  unfolding after
  fate-first es (took x mid) t = fate-second es mid x t (s x mid) ((k x).reads mid)
  fate-first es (stop xs) t = stopped-first t

  joins : Stops (joined f r s) (joined f q p) F
  joins =
      let x = h.blank in
      record { entries = h.entries ++ (k x).entries; blank = f x (k x).blank; whole = whole_join h.whole (k x).whole; reads = λ es. fate-first es (r es) (h.reads es) }

module _ {A B C : Type 0} {r q : Reader A} {D : A → List ℕ} {E : B → List ℕ} {F : C → List ℕ} where
  -- where the second reader depends on what the first has read
  pub stops-with : {s p : A → Reader B} (f : A → B → C) → Stops r q D → ((x : A) → Stops (s x) (p x) E) → ((x : A) (y : B) → F (f x y) ≡ D x ++ E y)
      → Stops (joined f r s) (joined f q p) F
  stops-with f h k j = joins F f h k j

  pub stops-two : {s p : Reader B} (f : A → B → C) → Stops r q D → Stops s p E → ((x : A) (y : B) → F (f x y) ≡ D x ++ E y)
      → Stops (two f r s) (two f q p) F
  stops-two f h k j = joins F f h (λ x. k) j

pub stops-made : {A C : Type 0} {r q : Reader A} {D : A → List ℕ} {F : C → List ℕ} (f : A → C) → Stops r q D → ((x : A) → F (f x) ≡ D x)
    → Stops (made f r) (made f q) F
unfolding after
stops-made {D = D} f h j = stops-with {E = λ u. []} (λ x u. f x) h (λ x. stops-here {A = Unit {0}} tt refl) (λ x u. rw (append-nil (D x)) (j x))

-- three readers are two, the second of a pair
abbrev pair : {A B : Type 0} → A → B → A × B
pair x y = (x, y)

abbrev of : {A B C : Type 0} → (A → B → C) → A × B → C
of f xy = f xy.0 xy.1

pairs : {A B C : Type 0} (f : A → B → C) (q : Reader A) (p : Reader B) (es : List Entry) → two f q p es ≡ made (of f) (two pair q p) es
unfolding after
pairs {A} {B} {C} f q p es = go (q es)
  where
    inner : (x : A) (y : Read B) → after y (λ z. took (f x z)) ≡ after (after y (λ z. took (pair x z))) (λ xy. took (of f xy))
    inner x (took y rest) = refl
    inner x (stop rest) = refl

    go : (y : Read A) → after y (λ x. made (f x) p) ≡ after (after y (λ x. made (pair x) p)) (λ xy. took (of f xy))
    go (took x rest) = inner x (p rest)
    go (stop rest) = refl

triple : {A B C D : Type 0} (f : A → B → C → D) (r : Reader A) (q : Reader B) (p : Reader C) (es : List Entry)
    → three f r q p es ≡ two (λ x. of (f x)) r (two pair q p) es
unfolding after
triple {A} f r q p es = go (r es)
  where
    go : (y : Read A) → after y (λ x. two (f x) q p) ≡ after y (λ x. made (of (f x)) (two pair q p))
    go (took x rest) = pairs (f x) q p rest
    go (stop rest) = refl

pub stops-three : {A B C G : Type 0} {r q : Reader A} {s p : Reader B} {u v : Reader C} {D : A → List ℕ} {E : B → List ℕ} {F : C → List ℕ} {H : G → List ℕ} (f : A → B → C → G)
    → Stops r q D → Stops s p E → Stops u v F → ((x : A) (y : B) (z : C) → H (f x y z) ≡ D x ++ (E y ++ F z))
    → Stops (three f r s u) (three f q p v) H
stops-three {B = B} {C = C} {r = r} {q = q} {s = s} {p = p} {u = u} {v = v} {E = E} {F = F} {H = H} f h k l j =
    let both : Stops (two pair s u) (two pair p v) (λ (yz : B × C). E yz.0 ++ F yz.1) = stops-two pair k l (λ y z. refl) in
    subst₂ (λ a b. Stops a b H) (sym (fun_ext (triple f r s u))) (sym (fun_ext (triple f q p v)))
    (stops-two (λ x. of (f x)) h both (λ x yz. j x yz.0 yz.1))

-- and four are three, the third of a pair
fourfold : {A B C D E : Type 0} (f : A → B → C → D → E) (r : Reader A) (q : Reader B) (p : Reader C) (o : Reader D) (es : List Entry)
    → four f r q p o es ≡ three (λ x y. of (f x y)) r q (two pair p o) es
unfolding after
fourfold {A} f r q p o es = go (r es)
  where
    go : (y : Read A) → after y (λ x. three (f x) q p o) ≡ after y (λ x. two (λ y. of (f x y)) q (two pair p o))
    go (took x rest) = triple (f x) q p o rest
    go (stop rest) = refl

pub stops-four : {A B C I G : Type 0} {r q : Reader A} {s p : Reader B} {u v : Reader C} {m n : Reader I} {D : A → List ℕ} {E : B → List ℕ} {F : C → List ℕ} {J : I → List ℕ}
    {H : G → List ℕ} (f : A → B → C → I → G) → Stops r q D → Stops s p E → Stops u v F → Stops m n J
    → ((x : A) (y : B) (z : C) (t : I) → H (f x y z t) ≡ D x ++ (E y ++ (F z ++ J t))) → Stops (four f r s u m) (four f q p v n) H
stops-four {C = C} {I = I} {r = r} {q = q} {s = s} {p = p} {u = u} {v = v} {m = m} {n = n} {F = F} {J = J} {H = H} f h k l i j =
    let both : Stops (two pair u m) (two pair v n) (λ (zt : C × I). F zt.0 ++ J zt.1) = stops-two pair l i (λ z t. refl) in
    subst₂ (λ a b. Stops a b H) (sym (fun_ext (fourfold f r s u m))) (sym (fun_ext (fourfold f q p v n)))
    (stops-three (λ x y. of (f x y)) h k both (λ x y zt. j x y zt.0 zt.1))

pub stops-times : {A : Type 0} {r q : Reader A} {D : A → List ℕ} (P : List A → List ℕ) → P [] ≡ [] → ((x : A) (xs : List A) → P (x ∷ xs) ≡ D x ++ P xs)
    → Stops r q D → (n : ℕ) → Stops (repeated n r) (repeated n q) P
unfolding repeated
stops-times P none more h zero = stops-here [] none
stops-times P none more h (suc n) = stops-two (λ x xs. x ∷ xs) h (stops-times P none more h n) more

-- ── an entry, and what stands below it ──
-- a form refuses its entry, or goes on behind it
pub data Forms {A : Type 0} (e : Entry) (r q : Reader A) (D : A → List ℕ) : Type 0 where
  refuses : ((es : List Entry) → r es ≡ stop (e ∷ es)) → ((es : List Entry) → q es ≡ stop (e ∷ es)) → Forms e r q D
  goes : Stops r q (λ x. drop 1 (D x)) → Forms e r q D

pub forms-stop : {A : Type 0} {e : Entry} {D : A → List ℕ} → Forms {A = A} e (λ es. stop (e ∷ es)) (λ es. stop (e ∷ es)) D
forms-stop = refuses (λ es. refl) (λ es. refl)

pub forms-if : {A : Type 0} {e : Entry} {r q s p : Reader A} {D : A → List ℕ} (b : Bool) → Forms e r q D → Forms e s p D
    → Forms e (λ es. If b then r es else s es) (λ es. If b then q es else p es) D
forms-if true h k = h
forms-if false h k = k

pub forms-made : {A C : Type 0} {e : Entry} {r q : Reader A} {D : A → List ℕ} {F : C → List ℕ} (f : A → C) → Forms e r q D → ((x : A) → F (f x) ≡ D x)
    → Forms e (made f r) (made f q) F
unfolding after
forms-made f (refuses g h) j = refuses (λ es. rw (g es)) (λ es. rw (h es))
forms-made f (goes h) j = goes (stops-made f h (λ x. ap (drop 1) (j x)))

-- a part whose first entry is at depth d
abbrev pub Rooted : {A : Type 0} → ℕ → (A → List ℕ) → Type 0
Rooted {A} d D = (x : A) → D x ≡ d ∷ drop 1 (D x)

module _ {A : Type 0} {d : ℕ} {D : A → List ℕ} (f g : Entry → Reader A) (root : Rooted d D) where
  under_whole : {e : Entry} {us : List Entry} {x : A} → in_layout e ≡ true → Whole (g e) (λ x. drop 1 (D x)) us x → Whole (first g) D (e ∷ us) x
  unfolding first
  under_whole {x = x} l w =
      record { takes = record { takes = λ rest. rw l (w.takes.takes rest) }; count = rw (root x) (ap suc w.count) }

  under-fate : d ≤ 64 → (e : Entry) (es : List Entry) → in_layout e ≡ true → (y : Read A) → Fate (g e) (λ x. drop 1 (D x)) es y → Fate (first g) D (e ∷ es) y
  unfolding first
  under-fate s e es l (took x rest) t =
      record {
        used = e ∷ t.used;
        split = ap (λ (l : List Entry). e ∷ l) t.split;
        whole = under_whole l t.whole;
        shallow = rw (root x) (shallow-cons (drop 1 (D x)) s t.shallow);
      }
  under-fate s e es l (stop xs) t =
      let x = t.value in
      record {
        used = e ∷ t.used;
        split = ap (λ (l : List Entry). e ∷ l) t.split;
        rest = t.rest;
        value = x;
        whole = under_whole l t.whole;
        shallow = rw (root x) (shallow-cons (drop 1 (D x)) s t.shallow);
        deep = λ y ys zs left v i j. rw (root v) (t.deep y ys zs left v i (rw l at j));
      }

-- nothing is read at all, since the first entry is too deep, or since the reader beside refuses it too
stopped-here : {A : Type 0} {q : Reader A} {D : A → List ℕ} {us : List Entry} {x : A} (es : List Entry) → Whole q D us x
    → ((y : Entry) (ys zs left : List Entry) (v : A) → es ≡ y ∷ ys → q (y ∷ zs) ≡ took v left → 65 ≤ get_or (D v) 0 0) → Stopped q D es es
stopped-here {D = D} {us = us} {x = x} es w h =
    record { used = []; split = refl; rest = us; value = x; whole = w; shallow = shallow-none (D x); deep = h }

pub stops-at-once : {A : Type 0} {q : Reader A} {D : A → List ℕ} {d : ℕ} {us : List Entry} {x : A} → Rooted d D → 65 ≤ d → Whole q D us x → Stops stop q D
stops-at-once {us = us} {x = x} root h w =
    record { entries = us; blank = x; whole = w; reads = λ es. stopped-here es w (λ y ys zs left v e g. rw (root v) h) }

pub stops_first : {A : Type 0} {d : ℕ} {D : A → List ℕ} {us : List Entry} {x : A} (f g : Entry → Reader A) → Rooted d D → d ≤ 64 → Whole (first g) D us x
    → ((e : Entry) → Forms e (f e) (g e) D) → Stops (first f) (first g) D
unfolding first
stops_first {A} {d} {D} {us} {x} f g root s w forms = record { entries = us; blank = x; whole = w; reads = at }
  where
    here : (e : Entry) (es : List Entry) → ((zs : List Entry) → first g (e ∷ zs) ≡ stop (e ∷ zs)) → Stopped (first g) D (e ∷ es) (e ∷ es)
    here e es h =
        stopped-here (e ∷ es) w (λ y ys zs left v i j. let k : e ≡ y = cc in clash (cc (h zs)))

    form : (e : Entry) (es : List Entry) → in_layout e ≡ true → Forms e (f e) (g e) D → Fate (first g) D (e ∷ es) (f e es)
    form e es l (refuses h k) = rw (h es) (here e es (λ zs. rw l (k zs)))
    form e es l (goes h) = under-fate f g root s e es l (f e es) (h.reads es)

    by : (e : Entry) (es : List Entry) (b : Bool) → in_layout e ≡ b → Fate (first g) D (e ∷ es) (If b then f e es else stop (e ∷ es))
    by e es true l = form e es l (forms e)
    by e es false l = here e es (λ zs. rw l)

    at : (es : List Entry) → Fate (first g) D es (first f es)
    at [] = stopped-here [] w (λ y ys zs left v i j. clash (cc))
    at (e ∷ es) = by e es (in_layout e) refl

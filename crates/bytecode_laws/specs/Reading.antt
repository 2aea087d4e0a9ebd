-- A macro that reads is well-formed, and its numbers are narrow where it was read from bytes.
use Rattle.std.specs.Prelude.{◌≡◌, refl, Bool, true, false, ◌&&◌, ℕ, zero, suc, ◌+◌, ◌-◌, ◌≤◌, eqb, leb, ltb, length, drop}
use Rattle.std.proofs.Common.{ap, sym, ◌∙◌, subst, arith, get_or-drop, eqb-true, leb-true, ltb-true}
use mathlib.Core.List.{List, [], ◌∷◌, reverse, reverse_aux}
use Rattle.std.proofs.Math.Option.{Option, none, some}
use Rattle.std.proofs.Math.ListN.{get_elem?}
use Rattle.std.proofs.lemmas.List.{length-reverse}
use Rattle.logic.specs.Options.{keep}
use Rattle.logic.specs.Choice.{If◌then◌else◌}
use Rattle.words.specs.Numbers.{byte_at, half_at, word_at}
use Rattle.words.specs.Laws.{Bytes, two, four, number-below}
use Rattle.values.specs.Types.{Ty, integer, logical, bits, reference}
use Rattle.values.specs.Ends.{accepted}
use Rattle.bytecode.specs.Macro.{Body, Code, shape, Placed, Macro, Cut, cut, marked, ty_of_byte, read_types, read_class, read_result, rises, read_body, read_code, follows}
use Rattle.bytecode.specs.Macro.{read_shape, Parsed, parsed, unread, or_unread, records, onward, head_reads, read_end, parse_macro, read_or8, read_macro}
use Rattle.logic.specs.Tests.{halves}
use Rattle.logic.specs.OptionLaws.{never-some, same_some, chosen, kept}
use Rattle.logic.specs.Lists.{Each}
use Rattle.bytecode_laws.specs.Terms.{Named, ReadClass, ReadBody, ReadShape, Rises, WellFormed, OfBytes, Narrow}

-- ── lists ──
each-reverse : {A : Type 0} (P : A → Type 0) (ys zs : List A) → Each P ys → Each P zs → Each P (reverse_aux ys zs)
each-reverse P [] zs p q = q
each-reverse P (y ∷ ys) zs p q = each-reverse P ys (y ∷ zs) p.1 (p.0, q)

-- ── single records ──
-- bytes are left where bytes were read
abbrev Leaves : List ℕ → List ℕ → Type 0
Leaves l r = Bytes l → Bytes r

bytes_drop : (n : ℕ) (l : List ℕ) → Leaves l (drop n l)
bytes_drop n l b k = rw (get_or-drop n l k 0) (b (n + k))

named-byte : (n t : ℕ) (ty : Ty) → ty_of_byte n t ≡ some ty → Named n ty
unfolding ty_of_byte
named-byte n t ty h = go (eqb t 1) (eqb t 2) (eqb t 3) (leb 16 t && ltb (t - 16) n) refl h
  where
    go : (a b c d : Bool) → (leb 16 t && ltb (t - 16) n) ≡ d
        → (If a then some integer else If b then some logical else If c then some bits else If d then some (reference (t - 16)) else none) ≡ some ty
        → Named n ty
    go true b c d e h = subst (Named n) (same_some h) tt
    go false true c d e h = subst (Named n) (same_some h) tt
    go false false true d e h = subst (Named n) (same_some h) tt
    go false false false true e h =
        subst (Named n) (same_some h) (ltb-true (t - 16) n (halves (leb 16 t) (ltb (t - 16) n) e).1)
    go false false false false e h = never-some h

abbrev Types : ℕ → ℕ → List ℕ → Cut (List Ty) → Type 0
Types n count l c = (length c.value ≡ count) × Each (Named n) c.value × Leaves l c.rest

types-read : (n count : ℕ) (l : List ℕ) (c : Cut (List Ty)) → read_types n count l ≡ some c → Types n count l c
unfolding read_types
types-read n zero l c h = subst (Types n 0 l) (same_some h) (refl, tt, λ b. b)
types-read n (suc k) [] c h = never-some h
types-read n (suc k) (t ∷ l) c h =
    let p = kept (ty_of_byte n t) (λ ty. keep (read_types n k l) (λ c. some (cut (ty ∷ c.value) c.rest))) c h in
    let q = kept (read_types n k l) (λ c. some (cut (p.0 ∷ c.value) c.rest)) c p.2 in
    let r = types-read n k l q.0 q.1 in
    subst (Types n (suc k) (t ∷ l)) (same_some q.2) (ap suc r.0, (named-byte n t p.0 p.1, r.1), λ b. r.2 (λ k. b (suc k)))

class-read : (n : ℕ) (before : List (List Ty)) (l : List ℕ) (c : Cut (List Ty)) → read_class n before l ≡ some c → ReadClass n c.value
    × Leaves l c.rest
unfolding read_class
class-read n before l c h =
    let p = chosen (marked 67 76 3 l && (leb 1 (byte_at l 2) && leb (byte_at l 2) 8)) (read_types n (byte_at l 2) (drop 3 l)) c h in
    let q = halves (leb 1 (byte_at l 2)) (leb (byte_at l 2) 8) (halves (marked 67 76 3 l) (leb 1 (byte_at l 2) && leb (byte_at l 2) 8) p.0).1 in
    let r = types-read n (byte_at l 2) (drop 3 l) c p.1 in (
      record {
        some-field = rw r.0 (leb-true 1 (byte_at l 2) q.0);
        few-fields = rw r.0 (leb-true (byte_at l 2) 8 q.1);
        named = r.1;
      },
      λ b. r.2 (bytes_drop 3 l b),
    )

abbrev Result : ℕ → List Ty → Type 0
Result n ts = (length ts ≤ 1) × Each (Named n) ts

result-read : (n t : ℕ) (ts : List Ty) → read_result n t ≡ some ts → Result n ts
unfolding read_result
result-read n t ts h = go (eqb t 0) h
  where
    go : (b : Bool) → (If b then some [] else keep (ty_of_byte n t) (λ ty. some (ty ∷ []))) ≡ some ts → Result n ts
    go true h = subst (Result n) (same_some h) (omega arith, tt)
    go false h =
        let p = kept (ty_of_byte n t) (λ ty. some (ty ∷ [])) ts h in
        subst (Result n) (same_some p.2) (omega arith, (named-byte n t p.0 p.1, tt))

body-read : (n size : ℕ) (before : List Body) (l : List ℕ) (c : Cut Body) → read_body n size before l ≡ some c
    → ReadBody n size c.value × (rises before c.value.first ≡ true) × Leaves l c.rest
unfolding read_body
body-read n size before l c h =
    let first = half_at l 2 in let params = byte_at l 4 in let cells = byte_at l 6 in
    let made : List Ty → Cut (List Ty)
    → Option (Cut Body) = λ r c. some (cut (record { first = first; parameters = params; results = r; cells = c.value }) c.rest) in
    let after : List Ty → Option (Cut Body) = λ r. keep (read_types n cells (drop 7 l)) (made r) in
    let test = marked 66 68 7 l in let fit = ltb first size && leb params cells in
    let p = chosen (test && (rises before first && fit)) (keep (read_result n (byte_at l 5)) after) c h in
    let t = halves (rises before first) fit (halves test (rises before first && fit) p.0).1 in
    let u = halves (ltb first size) (leb params cells) t.1 in
    let r = kept (read_result n (byte_at l 5)) after c p.1 in
    let q = kept (read_types n cells (drop 7 l)) (made r.0) c r.2 in
    let ts = types-read n cells (drop 7 l) q.0 q.1 in
    let rs = result-read n (byte_at l 5) r.0 r.1 in
    subst (λ (c : Cut Body). ReadBody n size c.value × (rises before c.value.first ≡ true) × Leaves l c.rest) (same_some q.2) (
      record {
        begins = ltb-true first size u.0;
        fewer-parameters = rw ts.0 (leb-true params cells u.1);
        one-result = rs.0;
        named-results = rs.1;
        named-cells = ts.1;
      },
      t.0,
      λ b. ts.2 (bytes_drop 7 l b),
    )

code_read : (before : List Code) (l : List ℕ) (c : Cut Code) → read_code before l ≡ some c → Bytes l → OfBytes c.value × Bytes c.rest
unfolding read_code
code_read before l c h b =
    let p = chosen (marked 73 78 8 l) (some (cut (record { op = byte_at l 2; a = byte_at l 3; b = word_at l 4 }) (drop 8 l))) c h in
    subst (λ (c : Cut Code). OfBytes c.value × Bytes c.rest) (same_some p.1)
    (record { op-byte = b 2; a_byte = b 3; b-word = number-below l b 4 four }, bytes_drop 8 l b)

shape-read : (n size : ℕ) (before : List Placed) (l : List ℕ) (c : Cut Placed) → read_shape n size before l ≡ some c
    → ReadShape n size c.value × (follows before c.value.address ≡ true) × Leaves l c.rest
unfolding read_shape
shape-read n size before l c h =
    let at = half_at l 2 in
    let made : Cut (List Ty)
    → Option (Cut Placed) = λ c. some (cut (record { address = at; found = shape (byte_at l 4) (reverse c.value) }) c.rest) in
    let fit = ltb at size && follows before at in
    let p = chosen (marked 83 72 6 l && fit) (keep (read_types n (byte_at l 5) (drop 6 l)) made) c h in
    let t = halves (ltb at size) (follows before at) (halves (marked 83 72 6 l) fit p.0).1 in
    let q = kept (read_types n (byte_at l 5) (drop 6 l)) made c p.1 in
    let ts = types-read n (byte_at l 5) (drop 6 l) q.0 q.1 in
    subst (λ (c : Cut Placed). ReadShape n size c.value × (follows before c.value.address ≡ true) × Leaves l c.rest)
    (same_some q.2) (
      record { stands = ltb-true at size t.0; named = each-reverse (Named n) q.0.value [] ts.1 tt },
      t.1,
      λ b. ts.2 (bytes_drop 6 l b),
    )

-- ── records one after the other ──
-- what holds of no record, and goes on to hold with each that is read, holds of all, the latest first
abbrev Took : {A : Type 0} → (List A → Type 0) → (List ℕ → Type 0) → ℕ → List A → List A → List ℕ → Type 0
Took {A} P Q n before xs k = (ys : List A) × (reverse ys ≡ xs) × P ys × Q k × (length ys ≡ n + length before)

parsed-same : {A : Type 0} (x y : A) (i j : ℕ) (l k : List ℕ) → parsed x i l ≡ parsed y j k → (x ≡ y) × (l ≡ k)
parsed-same x y i j l k h = (cc, cc)

not-parsed : {A B : Type 0} {x : A} {i j : ℕ} {k : List ℕ} → ◌≡◌ {A = Parsed A} (unread i) (parsed x j k) → B
not-parsed h = let z : ◌≡◌ {A = ℕ} 0 1 = cc h in absurd (omega arith)

took : {A : Type 0} (f : List A → List ℕ → Option (Cut A)) (P : List A → Type 0) (Q : List ℕ → Type 0)
    → ((before : List A) (l : List ℕ) (c : Cut A) → P before → Q l → f before l ≡ some c → P (c.value ∷ before) × Q c.rest)
    → (n : ℕ) (before : List A) (i : ℕ) (l : List ℕ) (xs : List A) (j : ℕ) (k : List ℕ) → P before → Q l
    → records f n before i l ≡ parsed xs j k → Took P Q n before xs k
unfolding records or_unread
took f P Q step zero before i l xs j k p q h =
    let e = parsed-same (reverse before) xs i j l k h in
    (before, e.0, p, subst Q e.1 q, omega arith)
took {A} f P Q step (suc n) before i l xs j k p q h =
    go (f before l) refl h (λ c. took f P Q step n (c.value ∷ before) (suc i) c.rest xs j k)
  where
    go : (o : Option (Cut A)) → f before l ≡ o → or_unread o i (λ c. records f n (c.value ∷ before) (suc i) c.rest) ≡ parsed xs j k
        → ((c : Cut A) → P (c.value ∷ before) → Q c.rest → records f n (c.value ∷ before) (suc i) c.rest ≡ parsed xs j k
        → Took P Q n (c.value ∷ before) xs k)
        → Took P Q (suc n) before xs k
    go none e h r = not-parsed h
    go (some c) e h r =
        let s = step before l c p q e in
        let t = r c s.0 s.1 h in
        (t.0, t.1, t.2, t.3, omega (arith, t.4))

-- addresses, the latest first: each passes the test that f makes of it beside those before it
module _ {A : Type 0} (at : A → ℕ) (f : List A → ℕ → Bool) where
  abbrev Falling : List A → Type 0
  Falling [] = Unit {0}
  Falling (x ∷ xs) = (f xs (at x) ≡ true) × Falling xs

  abbrev past : List A → ℕ
  past [] = 0
  past (x ∷ xs) = suc (at x)

  rises-reverse : ((xs : List A) (a : ℕ) → f xs a ≡ true → past xs ≤ a) → (ys zs : List A) → Falling ys → Rises at (past ys) zs → Rises at 0 (reverse_aux ys zs)
  rises-reverse above [] zs t r = r
  rises-reverse above (y ∷ ys) zs t r = rises-reverse above ys (y ∷ zs) t.1 (above ys (at y) t.0, r)

abbrev Falls : List Body → Type 0
Falls bs = Falling (λ (b : Body). b.first) rises bs

above : (bs : List Body) (a : ℕ) → rises bs a ≡ true → past (λ (b : Body). b.first) rises bs ≤ a
above [] a h = omega arith
above (b ∷ bs) a h = ltb-true b.first a h

abbrev Descends : List Placed → Type 0
Descends ps = Falling (λ (p : Placed). p.address) follows ps

follows-above : (ps : List Placed) (a : ℕ) → follows ps a ≡ true → past (λ (p : Placed). p.address) follows ps ≤ a
follows-above [] a h = omega arith
follows-above (p ∷ ps) a h = ltb-true p.address a h

abbrev Begins : List Body → Type 0
Begins [] = Unit {0}
Begins (b ∷ bs) = b.first ≡ 0

begins-reverse : (y : Body) (ys zs : List Body) → Falls (y ∷ ys) → Begins (reverse_aux (y ∷ ys) zs)
begins-reverse y [] zs f = eqb-true y.first 0 f.0
begins-reverse y (x ∷ xs) zs f = begins-reverse x xs (y ∷ zs) f.1

begins : (ys : List Body) → Falls ys → Begins (reverse ys)
begins [] f = tt
begins (y ∷ ys) f = begins-reverse y ys [] f

begins-first : (bs : List Body) → Begins bs → (b : Body) → get_elem? bs 0 ≡ some b → b.first ≡ 0
begins-first [] g b h = never-some h
begins-first (c ∷ bs) g b h = ap (λ (x : Body). x.first) (sym (same_some h)) ∙ g

-- ── the whole ──
onwards : {A B : Type 0} (p : Parsed A) (f : A → ℕ → List ℕ → Parsed B) (y : B) (i : ℕ) (l : List ℕ) → onward p f ≡ parsed y i l
    → (x : A) × (j : ℕ) × (k : List ℕ) × (p ≡ parsed x j k) × (f x j k ≡ parsed y i l)
unfolding onward
onwards (parsed x j k) f y i l h = (x, j, k, refl, h)
onwards (unread j) f y i l h = not-parsed h

ended : {A : Type 0} (x : A) (i : ℕ) (l : List ℕ) (y : A) (j : ℕ) (k : List ℕ) → read_end x i l ≡ parsed y j k → x ≡ y
unfolding read_end
ended {A} x i l y j k h = go (marked 90 90 2 l) (eqb (length l) 2) h
  where
    go : (a b : Bool) → (If a then (If b then parsed x (suc i) [] else unread (suc i)) else unread i) ≡ parsed y j k → x ≡ y
    go true true h = (parsed-same x y (suc i) j [] k h).0
    go true false h = not-parsed h
    go false b h = not-parsed h

was-parsed : (p : Parsed Macro) (m : Macro) → read_or8 p ≡ accepted m → (i : ℕ) × (l : List ℕ) × (p ≡ parsed m i l)
was-parsed (parsed x i l) m h = let e : x ≡ m = cc in (i, l, ap (λ y. parsed y i l) e)
was-parsed (unread i) m h = let z : ◌≡◌ {A = ℕ} 0 1 = cc h in absurd (omega arith)

-- the macro of four lists of records, each read with the latest first
module _ (cs : List (List Ty)) (bs : List Body) (xs : List Code) (ss : List Placed) where
  abbrev whole : Macro
  whole = record { classes = reverse cs; bodies = reverse bs; code = reverse xs; shapes = reverse ss }

  gathered : (n size : ℕ) → length (reverse cs) ≡ n → length (reverse xs) ≡ size → n ≤ 16 → 1 ≤ length bs → length bs ≤ 64
      → Each (ReadClass n) cs → Each (ReadBody n size) bs → Falls bs → Each (ReadShape n size) ss → Descends ss → WellFormed whole
  gathered n size en es few_classes some_body few_bodies rcs rbs falls rss descends =
      record {
        some-body = rw (length-reverse bs) some_body;
        few-bodies = rw (length-reverse bs) few_bodies;
        few-classes = rw en few_classes;
        classes-read = rw en (each-reverse (ReadClass n) cs [] rcs tt);
        root-first = begins-first (reverse bs) (begins bs falls);
        rises = rises-reverse (λ (b : Body). b.first) rises above bs [] falls tt;
        bodies-read = rw (en, es) (each-reverse (ReadBody n size) bs [] rbs tt);
        shapes-read = rw (en, es) (each-reverse (ReadShape n size) ss [] rss tt);
        ascends = rises-reverse (λ (p : Placed). p.address) follows follows-above ss [] descends tt;
      }

headed : (b : Bool) (p : Parsed Macro) (m : Macro) (i : ℕ) (k : List ℕ) → (If b then p else unread 0) ≡ parsed m i k → (b ≡ true) × (p ≡ parsed m i k)
headed true p m i k h = (refl, h)
headed false p m i k h = not-parsed h

pub reads : (l : List ℕ) (m : Macro) → read_macro l ≡ accepted m → WellFormed m × (Bytes l → Narrow m)
unfolding read_macro parse_macro head_reads
reads l m h =
    let n = byte_at l 2 in let size = half_at l 4 in
    let w = was-parsed (parse_macro l) m h in
    let t = headed _ _ m w.0 w.1 w.2 in
    let few_classes = halves (leb n 16) (leb 1 (byte_at l 3) && leb (byte_at l 3) 64) (halves (marked 72 68 8 l) _ t.0).1 in
    let few_bodies = halves (leb 1 (byte_at l 3)) (leb (byte_at l 3) 64) few_classes.1 in
    let c = onwards _ _ m w.0 w.1 t.1 in
    let b = onwards _ _ m w.0 w.1 c.4 in
    let x = onwards _ _ m w.0 w.1 b.4 in
    let s = onwards _ _ m w.0 w.1 x.4 in
    let e = ended _ _ _ m w.0 w.1 s.4 in
    let tc = took (read_class n) (Each (ReadClass n)) (Leaves l)
    (λ before k c p q h. let r = class-read n before k c h in ((r.0, p), λ b. r.1 (q b))) n [] 1 (drop 8 l) c.0 c.1 c.2 tt
    (bytes_drop 8 l) c.3 in
    let tb = took (read_body n size) (λ bs. Each (ReadBody n size) bs × Falls bs) (Leaves l)
    (λ before k c p q h. let r = body-read n size before k c h in (((r.0, p.0), (r.1, p.1)), λ b. r.2 (q b))) (byte_at l 3) [] c.1 c.2
    b.0 b.1 b.2 (tt, tt) tc.3 b.3 in
    let tx = took read_code (λ xs. Bytes l → Each OfBytes xs) (Leaves l)
    (λ before k c p q h. ((λ b. ((code_read before k c h (q b)).0, p b)), λ b. (code_read before k c h (q b)).1)) size [] b.1 b.2 x.0
    x.1 x.2 (λ b. tt) tb.3 x.3 in
    let ts = took (read_shape n size) (λ ss. Each (ReadShape n size) ss × Descends ss) (Leaves l)
    (λ before k c p q h. let r = shape-read n size before k c h in
    (((r.0, p.0), (r.1, p.1)), λ b. r.2 (q b))) (half_at l 6) [] x.1 x.2 s.0 s.1
    s.2 (tt, tt) tx.3 s.3 in
    let cs = tc.0 in let bs = tb.0 in let xs = tx.0 in let ss = ts.0 in
    let all : whole cs bs xs ss ≡ m = (λ i. record { classes = tc.1 i; bodies = tb.1 i; code = tx.1 i; shapes = ts.1 i }) ∙ e in
    let counted : length (reverse cs) ≡ n = length-reverse cs ∙ omega (arith, tc.4) in
    let measured : length (reverse xs) ≡ size = length-reverse xs ∙ omega (arith, tx.4) in (
      subst WellFormed all (gathered cs bs xs ss n size counted measured (leb-true n 16 few_classes.0)
          (omega (arith, tb.4, leb-true 1 (byte_at l 3) few_bodies.0)) (omega (arith, tb.4, leb-true (byte_at l 3) 64 few_bodies.1)) tc.2
          tb.2.0 tb.2.1 ts.2.0 ts.2.1),
      λ bytes. subst Narrow all
          (record { few-instructions = rw measured (number-below l bytes 4 two); instructions-narrow = each-reverse OfBytes xs [] (tx.2 bytes) tt }),
    )

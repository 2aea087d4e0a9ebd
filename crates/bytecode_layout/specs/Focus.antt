-- A focus is a part of some bytes that can be exchanged while the rest stays: `skip` and `before` put bytes around, `within` gives the
-- place of a part in a part, `nth` that of an element in a row of parts of one width; `part-get` is what stands there, `part-sets`
-- what a store there makes.
use Rattle.std.specs.Prelude.{◌≡◌, length, get_or}
use Rattle.std.proofs.Math.Path.{refl}
use Rattle.std.proofs.Common.{sym, ap, ◌∙◌, mul-suc, mul-zero, zero-add, arith, length-append, take_at, drop_at, get_or-append-add}
use mathlib.Core.List.{List, [], ◌∷◌, ◌++◌, append_assoc, append-nil}
use Prim.Native.Nat.{ℕ, zero, suc, ◌+◌, ◌*◌, ◌<◌}
use Rattle.std.proofs.Math.ListN.{get_or-append}
use Rattle.std.proofs.lemmas.List.Edits.{sets, sets-eq}
use Rattle.words.specs.Laws.{Size, one, number_at, bytes_of, same_number, length-bytes_of, number-of-bytes}
use Rattle.bytecode.specs.State.{pad, flat}
use Rattle.bytecode_layout.specs.Rows.{alter}

-- in l stands b, encoded, at a place; with another c there it is `whole c`
pub record Focus {B : Type 0} (enc whole : B → List ℕ) (l : List ℕ) (b : B) (at : ℕ) : Type 0 where
  pub pre : List ℕ
  pub post : List ℕ
  pub place : length pre ≡ at
  pub split : (c : B) → whole c ≡ pre ++ (enc c ++ post)
  pub now : l ≡ pre ++ (enc b ++ post)

-- a part of a part
pub within : {A B : Type 0} {enc_a : A → List ℕ} {enc_b : B → List ℕ} {whole : B → List ℕ} {l : List ℕ} {a : A} {b : B} {at off : ℕ} (f : A → B)
    → Focus enc_b whole l b at → Focus enc_a (λ (x : A). enc_b (f x)) (enc_b b) a off → Focus enc_a (λ (x : A). whole (f x)) l a (at + off)
within f p q = record {
  pre = p.pre ++ q.pre;
  post = q.post ++ p.post;
  place = length-append p.pre q.pre ∙ rw (p.place, q.place);
  split = λ x. p.split (f x) ∙ rw (q.split x) (simp append_assoc);
  now = p.now ∙ rw q.now (simp append_assoc);
}

module _ {B : Type 0} {enc whole : B → List ℕ} {l : List ℕ} {b : B} {at : ℕ} where
  -- the same focus, at other names of its bytes and its place
  pub refocus : {whole' : B → List ℕ} {at' : ℕ} → ((c : B) → whole' c ≡ whole c) → at ≡ at' → Focus enc whole l b at → Focus enc whole' l b at'
  refocus e p f = record { pre = f.pre; post = f.post; place = f.place ∙ p; split = λ c. e c ∙ f.split c; now = f.now }

  -- with bytes before it, or after it
  pub skip : (p : List ℕ) (n : ℕ) → length p ≡ n → Focus enc whole l b at → Focus enc (λ (c : B). p ++ whole c) (p ++ l) b (n + at)
  skip p n e f = record {
    pre = p ++ f.pre;
    post = f.post;
    place = length-append p f.pre ∙ rw (e, f.place);
    split = λ c. rw (f.split c) (sym (append_assoc p f.pre (enc c ++ f.post)));
    now = rw f.now (sym (append_assoc p f.pre (enc b ++ f.post)));
  }

  pub before : (q : List ℕ) → Focus enc whole l b at → Focus enc (λ (c : B). whole c ++ q) (l ++ q) b at
  before q f = record {
    pre = f.pre;
    post = f.post ++ q;
    place = f.place;
    split = λ c. rw (f.split c) (simp append_assoc);
    now = rw f.now (simp append_assoc);
  }

  -- what stands at the place, and a store there
  pub part-get : Focus enc whole l b at → (k : ℕ) → k < length (enc b) → get_or l (at + k) 0 ≡ get_or (enc b) k 0
  part-get p k h = rw (p.now, ← p.place, get_or-append-add p.pre (enc b ++ p.post) k 0) (get_or-append (enc b) p.post 0 k h)

  pub part-sets : Focus enc whole l b at → (c : B) → length (enc b) ≡ length (enc c) → sets l at (enc c) ≡ whole c
  part-sets p c e =
      let n : length l ≡ at + (length (enc b) + length p.post) = rw p.now (simp length-append (rw p.place)) in
      sets-eq (enc c) l at (omega arith)
      ∙ rw (p.now, p.split c, take_at p.pre (enc b ++ p.post) at p.place, ← e, ← append_assoc p.pre (enc b) p.post)
      (rw (drop_at (p.pre ++ enc b) p.post (at + length (enc b)) (length-append p.pre (enc b) ∙ rw p.place)) (simp append_assoc))

-- the whole
pub here : {B : Type 0} {enc : B → List ℕ} (b : B) → Focus enc enc (enc b) b 0
here {enc = enc} b = record { pre = []; post = []; place = refl; split = λ c. rw (append-nil (enc c)); now = rw (append-nil (enc b)) }

-- the k-th part of a row
module _ {B : Type 0} (z : B) (enc : B → List ℕ) (w : ℕ) (wide : (b : B) → length (enc b) ≡ w) where
  pub nth : (n : ℕ) (bs : List B) (k : ℕ) → k < n → Focus enc (λ (b : B). flat enc (pad n z (alter z (λ (a : B). b) bs k))) (flat enc (pad n z bs)) (get_or bs k z) (w * k)
  unfolding flat pad alter
  nth zero bs k h = absurd (omega arith)
  nth (suc n) [] zero h = record { pre = []; post = flat enc (pad n z []); place = rw (mul-zero w); split = λ b. refl; now = refl }
  nth (suc n) (x ∷ bs) zero h = record { pre = []; post = flat enc (pad n z bs); place = rw (mul-zero w); split = λ b. refl; now = refl }
  nth (suc n) [] (suc k) h = refocus (λ b. refl) (rw (mul-suc w k) (omega arith)) (skip (enc z) w (wide z) (nth n [] k (omega arith)))
  nth (suc n) (x ∷ bs) (suc k) h = refocus (λ b. refl) (rw (mul-suc w k) (omega arith)) (skip (enc x) w (wide x) (nth n bs k (omega arith)))

-- a number: one in a row of bytes, and what stands there
pub flat-bytes : (ns : List ℕ) → flat (bytes_of one) ns ≡ ns
unfolding flat
flat-bytes [] = refl
flat-bytes (n ∷ ns) = ap (λ (l : List ℕ). n ∷ l) (flat-bytes ns)

pub as_bytes : {B : Type 0} {enc whole : B → List ℕ} {l : List ℕ} {b : B} {at : ℕ} (f : B → List ℕ) → ((c : B) → flat (bytes_of one) (f c) ≡ enc c) → Focus enc whole l b at
    → Focus (λ (c : B). flat (bytes_of one) (f c)) whole l b at
as_bytes {b = b} f e p = record { pre = p.pre; post = p.post; place = p.place; split = λ c. rw (e c) (p.split c); now = rw (e b) p.now }

pub nth-byte : (n : ℕ) (bs : List ℕ) (k : ℕ) → k < n → Focus (bytes_of one) (λ (b : ℕ). pad n 0 (alter 0 (λ (a : ℕ). b) bs k)) (pad n 0 bs) (get_or bs k 0) k
nth-byte n bs k h =
    let f = nth 0 (bytes_of one) 1 (λ b. refl) n bs k h in
    record {
      pre = f.pre;
      post = f.post;
      place = f.place ∙ omega arith;
      split = λ c. sym (flat-bytes (pad n 0 (alter 0 (λ (a : ℕ). c) bs k)))
          ∙ f.split c;
      now = sym (flat-bytes (pad n 0 bs)) ∙ f.now;
    }

module _ (s : Size) {whole : ℕ → List ℕ} {l : List ℕ} {n at : ℕ} (p : Focus (bytes_of s) whole l n at) where
  pub number-get : number_at s l at ≡ n
  number-get =
      same_number s l (bytes_of s n) at 0 (λ k h. part-get p k (rw (length-bytes_of s n) h) ∙ rw (zero-add k))
      ∙ number-of-bytes s n

  pub number-sets : (m : ℕ) → sets l at (bytes_of s m) ≡ whole m
  number-sets m = part-sets p m (length-bytes_of s n ∙ sym (length-bytes_of s m))

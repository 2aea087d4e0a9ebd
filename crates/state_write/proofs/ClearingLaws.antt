-- How bytes are made 0 part by part: what a wipe writes and keeps, as many cells and fields as the macro's bytes say, and what is known
-- of bytes that hold a sound state.
use mathlib.Core.Path.{◌≡◌, refl, sym, ap, ap₂, ◌∙◌}
use mathlib.Core.Bool.{true}
use mathlib.Core.List.{List, [], ◌∷◌, ◌++◌}
use mathlib.Core.Logic.{inl}
use Prim.Native.Nat.{ℕ, zero, suc, ◌+◌, ◌*◌, ◌-◌, ◌<◌, ◌≤◌}
use native.Mathlib.Nat.{add-zero, add-suc, suc-add, mul-zero, mul-suc}
use native.Mathlib.Omega.{arith}
use lib.ListN.{length, set}
use lib.Seq.{sets, length-sets}
use lib.Dec.{ltb, leb, eqb}
use borrow.Author.Tests.{eq-eqb, ne_eqb, lt-ltb, eqb-true, ltb-true, leb-true}
use Rattle.logic.specs.Options.{is_some}
use Rattle.words.specs.Numbers.{byte_at, half_at}
use Rattle.words.specs.Laws.{Bytes, one, keeps}
use Rattle.bytecode.specs.Macro.{Macro}
use Rattle.bytecode.specs.State.{zeros, activations_at, activation_length, record_length, records_at, holds_at, state_length}
use Rattle.bytecode_laws.specs.Promises.{passed}
use Rattle.bytecode_layout.specs.Parts.{length-zeros}
use Rattle.bytecode_layout.specs.Blank.{zeros-join}
use Rattle.bytecode_layout.specs.Cleared.{Gap, ◌⋯◌, wipes, activation_gaps, record_gaps, cell_count, field_count, clear_activations, clear_records, clear_running, cleared}
use Rattle.bytecode_layout.specs.Passing.{sized}
use Rattle.bytecode_layout.specs.Layout.{cleared-sound}
use Rattle.load_places.specs.Records.{classes, bodies, class_place, body_place}
use Rattle.load_check.specs.Views.{span-length, view, reads-view, body-at, class-at, passing}
use Rattle.state_sound.specs.Each.{each, each-get}
use Rattle.state_sound.specs.Fits.{body_in, class_in, held, groups_fit, record_fits, frame_fits, running_fits, plain_fits, stands, activations_in, sound_bytes}
use Rattle.logic.specs.Tests.{no-else}
use Rattle.state_sound.proofs.Sounds.{sounds}
use Rattle.state_check.specs.Inspecting.{Held}
use Rattle.state_write.specs.Clearing.{Below, Uncleared, Encodes}

-- ── a run made 0, byte by byte ──
sets-snoc : (vs l : List ℕ) (i v : ℕ) → sets l i (vs ++ (v ∷ [])) ≡ set (sets l i vs) (i + length vs) v
sets-snoc [] l i v = rw (add-zero i)
sets-snoc (w ∷ vs) l i v = rw (add-suc i (length vs), ← suc-add i (length vs)) (sets-snoc vs (set l i w) (suc i) v)

pub wiped-none : (l : List ℕ) (a : ℕ) → l ≡ sets l a (zeros (a - a))
unfolding zeros
wiped-none l a = let e : a - a ≡ 0 = omega arith in rw e

pub wiped-more : (l : List ℕ) (a i : ℕ) → a ≤ i → set (sets l a (zeros (i - a))) i 0 ≡ sets l a (zeros (i + 1 - a))
unfolding zeros
wiped-more l a i h =
    let e : i + 1 - a ≡ (i - a) + 1 = omega arith in
    let j : a + length (zeros (i - a)) ≡ i = rw (length-zeros (i - a)) (omega arith) in
    rw e (sym (ap (sets l a) (zeros-join (i - a) 1) ∙ sets-snoc (zeros (i - a)) l a 0 ∙ ap (λ (k : ℕ). set (sets l a (zeros (i - a))) k 0) j))

-- ── what stays ──
-- no gap goes on past e
abbrev Upto : ℕ → List Gap → Type 0
Upto e [] = Unit {0}
Upto e (g ∷ gs) = (g.to ≤ e) × Upto e gs

kept-past : (l : List ℕ) (a d j : ℕ) → (0 < d → a + d ≤ j) → byte_at (sets l a (zeros d)) j ≡ byte_at l j
unfolding zeros
kept-past l a zero j h = refl
kept-past l a (suc d) j h = keeps one (zeros (suc d)) l a j (inl (rw (length-zeros (suc d)) (h (omega arith))))

pub wipes-kept : (gs : List Gap) (l : List ℕ) (b e j : ℕ) → Upto e gs → b + e ≤ j → byte_at (wipes l b gs) j ≡ byte_at l j
wipes-kept [] l b e j u h = refl
wipes-kept (g ∷ gs) l b e j u h =
    wipes-kept gs (sets l (b + g.from) (zeros (g.to - g.from))) b e j u.1 h
    ∙ kept-past l (b + g.from) (g.to - g.from) j (λ p. omega (arith, u.0))

pub wipes-length : (gs : List Gap) (l : List ℕ) (b : ℕ) → length (wipes l b gs) ≡ length l
wipes-length [] l b = refl
wipes-length (g ∷ gs) l b = wipes-length gs (sets l (b + g.from) (zeros (g.to - g.from))) b ∙ length-sets l (b + g.from) (zeros (g.to - g.from))

-- ── parts in a row, each cleared by its own bytes ──
pub record Row : Type 0 where
  pub size : ℕ
  -- the number that each begins with is below this
  pub limit : ℕ
  pub gaps : List ℕ → ℕ → List Gap
  pub inside : (l : List ℕ) (b : ℕ) → Upto size (gaps l b)
  pub clears : ℕ → ℕ → List ℕ → List ℕ
  pub nothing : (b : ℕ) (l : List ℕ) → clears 0 b l ≡ l
  pub next : (n b : ℕ) (l : List ℕ) → clears (suc n) b l ≡ clears n (b + size) (wipes l b (gaps l b))

pub no-activation : (m : Macro) (b : ℕ) (l : List ℕ) → clear_activations m 0 b l ≡ l
unfolding clear_activations
no-activation m b l = refl

pub next-activation : (m : Macro) (n b : ℕ) (l : List ℕ)
    → clear_activations m (suc n) b l ≡ clear_activations m n (b + activation_length) (wipes l b (activation_gaps (cell_count m (byte_at l b)) (byte_at l (b + 1))))
unfolding clear_activations
next-activation m n b l = refl

pub no_record : (m : Macro) (b : ℕ) (l : List ℕ) → clear_records m 0 b l ≡ l
unfolding clear_records
no_record m b l = refl

pub next-record : (m : Macro) (n b : ℕ) (l : List ℕ) → clear_records m (suc n) b l ≡ clear_records m n (b + record_length) (wipes l b (record_gaps (field_count m (byte_at l b))))
unfolding clear_records
next-record m n b l = refl

abbrev pub activations : List ℕ → Row
activations c = record {
  size = activation_length;
  limit = bodies c;
  gaps = λ l b. activation_gaps (cell_count (view c) (byte_at l b)) (byte_at l (b + 1));
  inside = λ l b. (omega arith, (omega arith, (omega arith, (omega arith, (omega arith, (omega arith, tt))))));
  clears = clear_activations (view c);
  nothing = no-activation (view c);
  next = next-activation (view c);
}

abbrev pub records : List ℕ → Row
records c = record {
  size = record_length;
  limit = classes c;
  gaps = λ l b. record_gaps (field_count (view c) (byte_at l b));
  inside = λ l b. (omega arith, (omega arith, (omega arith, tt)));
  clears = clear_records (view c);
  nothing = no_record (view c);
  next = next-record (view c);
}

pub row_kept : (R : Row) (n b : ℕ) (l : List ℕ) (j : ℕ) → b + R.size * n ≤ j → byte_at (R.clears n b l) j ≡ byte_at l j
row_kept R zero b l j h = ap (λ (x : List ℕ). byte_at x j) (R.nothing b l)
row_kept R (suc n) b l j h =
    let e : R.size * suc n ≡ R.size * n + R.size = mul-suc R.size n in
    ap (λ (x : List ℕ). byte_at x j) (R.next n b l)
    ∙ row_kept R n (b + R.size) (wipes l b (R.gaps l b)) j (omega arith) ∙ wipes-kept (R.gaps l b) l b R.size j (R.inside l b) (omega arith)

-- of n parts from b₀ on, some are left, which stand from b on in l
pub record Left (R : Row) (l₀ : List ℕ) (b₀ n : ℕ) (l : List ℕ) (b left : ℕ) : Type 0 where
  pub ends : b + R.size * left ≡ b₀ + R.size * n
  pub long : length l ≡ length l₀
  pub below : Below R.limit R.size l b left
  pub same : R.clears left b l ≡ R.clears n b₀ l₀

pub all_left : {R : Row} {l : List ℕ} {b n : ℕ} → Below R.limit R.size l b n → Left R l b n l b n
all_left B = record { ends = refl; long = refl; below = B; same = refl }

module _ {R : Row} {l₀ l : List ℕ} {b₀ n b left : ℕ} (L : Left R l₀ b₀ n l b left) where
  pub none_left : left ≤ 0 → l ≡ R.clears n b₀ l₀
  none_left h = let z : left ≡ 0 = omega arith in sym (R.nothing b l) ∙ ap (λ (k : ℕ). R.clears k b l) (sym z) ∙ L.same

  module _ (h : 0 < left) where
    one-more : left ≡ suc (left - 1)
    one-more = omega arith

    pub first_below : byte_at l b < R.limit
    first_below = rw (mul-zero R.size, add-zero b) at (L.below 0 h)

    size-more : R.size * left ≡ R.size * (left - 1) + R.size
    size-more = ap (λ (k : ℕ). R.size * k) one-more ∙ mul-suc R.size (left - 1)

    pub first-inside : b + R.size ≤ b₀ + R.size * n
    first-inside = omega (arith, size-more, L.ends)

    pub one_less : (x : List ℕ) → x ≡ wipes l b (R.gaps l b) → Left R l₀ b₀ n x (b + R.size) (left - 1)
    one_less x e = record {
      ends = omega (arith, size-more, L.ends);
      long = ap length e ∙ wipes-length (R.gaps l b) l b ∙ L.long;
      below = λ k p.
          let m : R.size * suc k ≡ R.size * k + R.size = mul-suc R.size k in
          let j : b + R.size * suc k ≡ b + R.size + R.size * k = omega arith in
          let f : byte_at l (b + R.size + R.size * k) < R.limit = rw j at (L.below (suc k) (omega arith)) in
          rw (e, wipes-kept (R.gaps l b) l b R.size (b + R.size + R.size * k) (R.inside l b) (omega arith)) f;
      same = ap (R.clears (left - 1) (b + R.size)) e ∙ sym (R.next (left - 1) b l) ∙ ap (λ (k : ℕ). R.clears k b l) (sym one-more) ∙ L.same;
    }

-- ── as many as the macro's bytes say ──
cells_are : (c : List ℕ) (k : ℕ) → k < bodies c → byte_at c (body_place c k + 6) ≡ cell_count (view c) k
cells_are c k h = rw (body-at c k, lt-ltb k (bodies c) h) (sym (span-length _ (byte_at c (body_place c k + 6)) 0))

fields-are : (c : List ℕ) (a : ℕ) → a < classes c → byte_at c (class_place c a + 2) ≡ field_count (view c) a
fields-are c a h = rw (class-at c a, lt-ltb a (classes c) h) (sym (span-length _ (byte_at c (class_place c a + 2)) 0))

module _ (c l : List ℕ) (b : ℕ) {k q : ℕ} {x : List ℕ} (first : k ≡ byte_at l b) where
  pub activation-cleared : {cells operands : ℕ} → k < bodies c → q ≡ body_place c k → cells ≡ byte_at c (q + 6) → operands ≡ byte_at l (b + 1)
      → x ≡ wipes l b (activation_gaps cells operands) → x ≡ wipes l b ((activations c).gaps l b)
  activation-cleared h e n d w =
      let z = n ∙ ap (λ (p : ℕ). byte_at c (p + 6)) e ∙ cells_are c k h ∙ ap (cell_count (view c)) first in
      w ∙ ap₂ (λ (i j : ℕ). wipes l b (activation_gaps i j)) z d

  pub record-cleared : {fields : ℕ} → k < classes c → q ≡ class_place c k → fields ≡ byte_at c (q + 2)
      → x ≡ wipes l b (record_gaps fields) → x ≡ wipes l b ((records c).gaps l b)
  record-cleared h e n w =
      let z = n ∙ ap (λ (p : ℕ). byte_at c (p + 2)) e ∙ fields-are c k h ∙ ap (field_count (view c)) first in
      w ∙ ap (λ (i : ℕ). wipes l b (record_gaps i)) z

-- ── bytes that hold a sound state ──
frame-body : (c l : List ℕ) (r n k : ℕ) → frame_fits c l r n k ≡ true → body_in l k < bodies c
unfolding frame_fits
frame-body c l r n k e = ltb-true _ _ (no-else (ltb (body_in l k) (bodies c)) _ e).0

record-class : (c l : List ℕ) (r k : ℕ) → record_fits c l r k ≡ true → class_in l k < classes c
unfolding record_fits
record-class c l r k e = ltb-true _ _ (no-else (ltb (class_in l k) (classes c)) _ e).0

running-uncleared : (c l : List ℕ) → running_fits c l (byte_at l 2) (half_at l 4) (half_at l 6) ≡ true → Uncleared c l
unfolding running_fits
running-uncleared c l e =
    let n = byte_at l 2 in
    let r = half_at l 4 in
    let t1 = no-else (leb 1 n) _ e in
    let t2 = no-else (leb n 32) _ t1.1 in
    let t3 = no-else (leb r 256) _ t2.1 in
    let t4 = no-else (eqb (body_in l 0) 0) _ t3.1 in
    let t5 = no-else (eqb (held l n) (half_at l 6)) _ t4.1 in
    let t6 = no-else (groups_fit l (half_at l 6)) _ t5.1 in
    let t7 = no-else (each (record_fits c l r) 0 r) (each (frame_fits c l r n) 0 n) t6.1 in
    record {
      few = leb-true n 32 t2.0;
      some-records = leb-true r 256 t3.0;
      of-bodies = λ k p. frame-body c l r n k (each-get (frame_fits c l r n) n t7.1 k p);
      of-classes = λ k p. record-class c l r k (each-get (record_fits c l r) r t7.0 k p);
    }

module _ (c l : List ℕ) (small : Bytes l) (H : Held c l) where
  plain : (length l ≡ state_length) × (plain_fits c l ≡ true)
  unfolding sound_bytes
  plain =
      let e : sound_bytes c l ≡ true = sym (sounds c H.macro H.passes l small) ∙ ap is_some H.sound in
      let a = no-else (eqb (length l) state_length) _ e in
      let d = no-else (plain_fits c l) (each (stands c l (half_at l 4) (byte_at l 2)) 0 (activations_in l)) a.1 in
      (eqb-true (length l) state_length a.0, d.0)

  pub long : length l ≡ state_length
  long = plain.0

  pub uncleared : byte_at l 0 ≡ 0 → Uncleared c l
  unfolding plain_fits
  uncleared z = running-uncleared c l (rw (eq-eqb (byte_at l 0) 0 z) at plain.1)

-- what precedes the activations, and what precedes the records, is cleared, and these still begin as they did
pub bodies_kept : (c l x : List ℕ) (n : ℕ) → n ≡ byte_at l 2 → Uncleared c l → x ≡ wipes l 0 ((1 ⋯ 2) ∷ (3 ⋯ 4) ∷ (8 ⋯ 32) ∷ []) → Below (bodies c) activation_length x activations_at n
bodies_kept c l x n e U w k p =
    rw (w, wipes-kept ((1 ⋯ 2) ∷ (3 ⋯ 4) ∷ (8 ⋯ 32) ∷ []) l 0 32 (activations_at + activation_length * k) (omega arith, (omega arith, (omega arith, tt))) (omega arith))
    (U.of-bodies k (omega arith))

pub classes-kept : (c l x y : List ℕ) (n r h : ℕ) → n ≤ 32 → r ≡ half_at l 4 → Uncleared c l → x ≡ wipes l 0 ((1 ⋯ 2) ∷ (3 ⋯ 4) ∷ (8 ⋯ 32) ∷ [])
    → y ≡ wipes (clear_activations (view c) n 32 x) 0 ((activations_at + activation_length * n ⋯ holds_at) ∷ (holds_at + h ⋯ records_at) ∷ []) → Below (classes c) record_length y records_at r
classes-kept c l x y n r h few e U w v k p =
    let j = records_at + record_length * k in
    let g : byte_at y j ≡ byte_at l j =
    ap (λ (z : List ℕ). byte_at z j) v
    ∙ wipes-kept ((activations_at + activation_length * n ⋯ holds_at) ∷ (holds_at + h ⋯ records_at) ∷ []) (clear_activations (view c) n 32 x) 0 records_at j (omega arith, (omega arith, tt)) (omega arith)
    ∙ row_kept (activations c) n 32 x j (omega arith)
    ∙ ap (λ (z : List ℕ). byte_at z j) w
    ∙ wipes-kept ((1 ⋯ 2) ∷ (3 ⋯ 4) ∷ (8 ⋯ 32) ∷ []) l 0 32 j (omega arith, (omega arith, (omega arith, tt))) (omega arith) in
    rw g (U.of-classes k (omega arith))

-- ── the whole ──
pub running-cleared : (c l : List ℕ) {n r h : ℕ} {x₁ x₂ x₃ x₄ x₅ : List ℕ} → n ≡ byte_at l 2 → r ≡ half_at l 4 → h ≡ half_at l 6
    → x₁ ≡ wipes l 0 ((1 ⋯ 2) ∷ (3 ⋯ 4) ∷ (8 ⋯ 32) ∷ []) → x₂ ≡ clear_activations (view c) n 32 x₁
    → x₃ ≡ wipes x₂ 0 ((activations_at + activation_length * n ⋯ holds_at) ∷ (holds_at + h ⋯ records_at) ∷ []) → x₄ ≡ clear_records (view c) r records_at x₃
    → x₅ ≡ wipes x₄ 0 ((records_at + record_length * r ⋯ state_length) ∷ []) → x₅ ≡ clear_running (view c) (byte_at l 2) (half_at l 4) (half_at l 6) l
unfolding clear_running
running-cleared c l en er eh e₁ e₂ e₃ e₄ e₅ = rw (← en, ← er, ← eh, e₅, e₄, e₃, e₂, e₁)

module _ (m : Macro) (l : List ℕ) where
  pub as-running : byte_at l 0 ≡ 0 → clear_running m (byte_at l 2) (half_at l 4) (half_at l 6) l ≡ cleared m l
  unfolding cleared
  as-running z = simp (eq-eqb (byte_at l 0) 0 z)

  module _ (a : (byte_at l 0 ≡ 0 → ⊥)) where
    pub as-releasing : byte_at l 0 ≡ 1 → wipes l 0 ((2 ⋯ 6) ∷ (8 ⋯ holds_at) ∷ (holds_at + half_at l 6 ⋯ state_length) ∷ []) ≡ cleared m l
    unfolding cleared
    as-releasing z = simp (ne_eqb (byte_at l 0) 0 a, eq-eqb (byte_at l 0) 1 z)

    pub as-ended : (byte_at l 0 ≡ 1 → ⊥) → wipes l 0 ((2 ⋯ state_length) ∷ []) ≡ cleared m l
    unfolding cleared
    as-ended z = simp (ne_eqb (byte_at l 0) 0 a, ne_eqb (byte_at l 0) 1 z)

pub encodes : (c l x : List ℕ) → Bytes c → Bytes l → x ≡ cleared (view c) l → Encodes c l x
encodes c l x C L e m p s q =
    let v = (reads-view c m (passing c m p).0).0 in
    e ∙ rw v (cleared-sound m (sized m (passed c m C p)) l L s q).0

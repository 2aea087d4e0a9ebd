-- A sound state is read back from its encoding.
use Rattle.std.specs.Prelude.{◌≡◌, true, leb, get_or}
use Rattle.std.proofs.Math.Path.{refl, sym, ap}
use Rattle.std.proofs.Common.{◌∙◌, suc-mul, zero-mul, arith, length-append}
use mathlib.Core.List.{List, [], ◌∷◌, ◌++◌, map, reverse, reverse_aux, append_assoc, append-nil, reverse-append, reverse-cons, reverse-reverse}
use Rattle.std.proofs.Math.Option.{Option, some}
use Prim.Native.Nat.{ℕ, zero, suc, ◌+◌, ◌*◌, ◌-◌, ◌≤◌}
use Rattle.std.proofs.Math.ListN.{length, take, drop, replicate}
use Rattle.std.proofs.lemmas.List.{length-reverse, length-map}
use Rattle.std.proofs.Math.Seq.{take_at, drop_at, drop-append-add}
use borrow.Author.Tests.{leb-true, le-leb, eq-eqb}
use Rattle.bytecode.specs.Words.{value_word}
use Rattle.logic.specs.Lists.{all, Each}
use Rattle.words.specs.Numbers.{byte_at, half_at, word}
use Rattle.words.specs.Laws.{two, four, number-of-bytes}
use Rattle.values.specs.Ends.{is_condition}
use Rattle.bytecode.specs.Macro.{Macro}
use Rattle.bytecode.specs.Machine.{Activation, Made, Shared, end_by, Machine, running, unwinding, ended, all_holds}
use Rattle.bytecode.specs.Sound.{sound_group, sound}
use Rattle.bytecode.specs.State.{pad, flat, zeros, words_of, types_of, type_byte, activation_bytes, record_bytes, header_bytes, state_bytes, encode, part, read_value, read_cell}
use Rattle.bytecode.specs.State.{read_row, word_of_cell, byte_of_cell, read_activation, read_activations, read_record, read_records, read_running, read_unwinding, decode}
use Rattle.logic.specs.Tests.{halves}
use Rattle.logic.specs.ListLaws.{each-reverse}
use Rattle.bytecode_layout.specs.Rows.{length-pad, pad-fill, flat_append}
use Rattle.bytecode_layout.specs.Parts.{frame_of, entry_of, frame_is, entry-is, wide-frame, wide-entry, length-words, length-header, length-zeros}
use Rattle.bytecode_layout.specs.Sized.{Sized, Laid, GoodValue, GoodRecord, GoodActivation, Good, good}
use Rattle.bytecode_layout.specs.Bytes.{few-holds}
use Rattle.bytecode_layout.specs.Places.{phase, code, activations, records, holds}
use Rattle.bytecode_layout.specs.Reads.{encode-reads}

-- ── rows of values or cells ──
module _ {A : Type 0} (word_of byte_of : A → ℕ) (read : ℕ → ℕ → Option A) where
  read-row : (xs : List A) → Each (Laid word_of byte_of read) xs → (x y : List ℕ)
      → read_row read (length xs) (flat word (map word_of xs) ++ x) (map byte_of xs ++ y) ≡ some xs
  unfolding read_row flat
  read-row [] g x y = refl
  read-row (v ∷ vs) g x y = rw (number-of-bytes four (word_of v), g.0.readable, read-row vs g.1 x y)

  -- from rows that are longer
  read-rows : (xs : List A) → Each (Laid word_of byte_of read) xs → (w : ℕ) → length xs ≤ w → (x y : List ℕ)
      → read_row read (length xs) (words_of w (map word_of xs) ++ x) (types_of w (map byte_of xs) ++ y) ≡ some xs
  read-rows xs g w few x y =
      rw (
        pad-fill 0 w (map word_of xs) (rw (length-map xs word_of) few),
        pad-fill 0 w (map byte_of xs) (rw (length-map xs byte_of) few),
        flat_append word (map word_of xs) (replicate (w - length (map word_of xs)) 0),
      )
      (simp append_assoc (read-row xs g _ _))

drop-over : (p q : List ℕ) (n k : ℕ) → length p ≡ n → drop (n + k) (p ++ q) ≡ drop k q
drop-over p q n k e = rw (← e) (drop-append-add p q k)

-- ── activations ──
pub wide-activation : (f : Activation) → length (activation_bytes f) ≡ 328
wide-activation f = rw (frame_is f) (wide-frame (frame_of f))

pub wide-record : (r : Made) → length (record_bytes r) ≡ 44
wide-record r = rw (entry-is r) (wide-entry (entry_of r))

-- the four rows of an activation: the words and type bytes of its cells and of its operands
module _ (cw vw ct vt : List ℕ) where
  abbrev rows : List ℕ
  rows = words_of 32 cw ++ (words_of 32 vw ++ (types_of 32 ct ++ types_of 32 vt))

  row-two : drop 128 rows ≡ words_of 32 vw ++ (types_of 32 ct ++ types_of 32 vt)
  row-two = drop_at (words_of 32 cw) _ 128 (length-words 32 cw)

  row-three : drop 256 rows ≡ types_of 32 ct ++ types_of 32 vt
  row-three =
      drop-over (words_of 32 cw) (words_of 32 vw ++ (types_of 32 ct ++ types_of 32 vt)) 128 128 (length-words 32 cw)
      ∙ drop_at (words_of 32 vw) _ 128 (length-words 32 vw)

  row-four : drop 288 rows ≡ types_of 32 vt ++ []
  row-four =
      drop-over (words_of 32 cw) (words_of 32 vw ++ (types_of 32 ct ++ types_of 32 vt)) 128 160 (length-words 32 cw)
      ∙ drop-over (words_of 32 vw) (types_of 32 ct ++ types_of 32 vt) 128 32 (length-words 32 vw)
      ∙ drop_at (types_of 32 ct) (types_of 32 vt) 32 (length-pad 0 32 ct)
      ∙ sym (append-nil (types_of 32 vt))

-- an activation's holds, the first taken first
abbrev pub turned : Activation → List ℕ
turned f = reverse f.holds

open-byte : (f : Activation) (x : List ℕ) → get_or (activation_bytes f ++ x) 2 0 ≡ length f.holds
unfolding activation_bytes
open-byte f x = refl

module _ (m : Macro) where
  read-activation : (f : Activation) → GoodActivation m f → (rest : List ℕ) → read_activation m (activation_bytes f) (reverse f.holds ++ rest) ≡ some f
  unfolding read_activation activation_bytes
  read-activation f g rest =
      let n = length m.classes in
      let cs = f.cells in
      let vs = reverse f.operands in
      let cw = map word_of_cell cs in let ct = map byte_of_cell cs in
      let vw = map value_word vs in let vt = map type_byte vs in
      let count : length g.which.cells ≡ length cs = sym g.count in
      let depth : length f.operands ≡ length vs = sym (length-reverse f.operands) in
      let few : length cs ≤ 32 = g.few-cells in
      let room : length vs ≤ 32 = rw (length-reverse f.operands) g.few-operands in
      let held : take (length f.holds) (reverse f.holds ++ rest) ≡ reverse f.holds = take_at (reverse f.holds) rest (length f.holds) (length-reverse f.holds) in
      rw (g.body, count, le-leb (length cs) 32 few, le-leb (length f.operands) 32 g.few-operands, le-leb (length f.holds) 16 g.few-holds)
      (rw (
        row-three cw vw ct vt,
        read-rows word_of_cell byte_of_cell (read_cell n) cs g.cells 32 few (words_of 32 vw ++ (types_of 32 ct ++ types_of 32 vt)) (types_of 32 vt),
        row-two cw vw ct vt,
        row-four cw vw ct vt,
        depth,
        read-rows value_word type_byte (read_value n) vs (each-reverse (GoodValue n) f.operands g.operands) 32 room (types_of 32 ct ++ types_of 32 vt) [],
      )
      (rw (number-of-bytes two f.address, reverse-reverse f.operands, held, reverse-reverse f.holds)))

  -- from the root up; what is read stands on those below
  read-activations : (xs : List Activation) → Each (GoodActivation m) xs → (a h : List ℕ) (below : List Activation)
      → read_activations m (length xs) (flat activation_bytes xs ++ a) (flat turned xs ++ h) below ≡ some (reverse_aux xs below)
  unfolding read_activations flat
  read-activations [] g a h below = refl
  read-activations (f ∷ xs) g a h below =
      let as' = flat activation_bytes xs ++ a in
      let hs = flat turned xs ++ h in
      rw (append_assoc (activation_bytes f) (flat activation_bytes xs) a, append_assoc (reverse f.holds) (flat turned xs) h)
      (rw (
        take_at (activation_bytes f) as' 328 (wide-activation f),
        read-activation f g.0 hs,
        drop_at (activation_bytes f) as' 328 (wide-activation f),
        open-byte f as',
        drop_at (reverse f.holds) hs (length f.holds) (length-reverse f.holds),
      )
      (read-activations xs g.1 a h (f ∷ below)))

  -- ── records ──
  read-record : (r : Made) → GoodRecord m r → read_record m (record_bytes r) ≡ some r
  unfolding read_record record_bytes
  read-record r g =
      let ws = words_of 8 (map value_word r.fields) in
      let ts = types_of 8 (map type_byte r.fields) in
      let e : drop 32 (ws ++ ts) ≡ ts ++ [] = drop_at ws ts 32 (length-words 8 (map value_word r.fields)) ∙ sym (append-nil ts) in
      rw (g.class, ← g.count, e, read-rows value_word type_byte (read_value (length m.classes)) r.fields g.values 8 g.few ts [])

  read-records : (rs : List Made) → Each (GoodRecord m) rs → (a : List ℕ) → read_records m (length rs) (flat record_bytes rs ++ a) ≡ some rs
  unfolding read_records flat
  read-records [] g a = refl
  read-records (r ∷ rs) g a =
      let rest = flat record_bytes rs ++ a in
      rw (append_assoc (record_bytes r) (flat record_bytes rs) a)
      (rw (take_at (record_bytes r) rest 44 (wide-record r), read-record r g.0, drop_at (record_bytes r) rest 44 (wide-record r), read-records rs g.1 a))

-- ── the parts of a state ──
pub flat-written : {A : Type 0} (enc : A → List ℕ) (xs : List A) → flat (λ (l : List ℕ). l) (map enc xs) ≡ flat enc xs
unfolding flat
flat-written enc [] = refl
flat-written enc (x ∷ xs) = ap (λ (l : List ℕ). enc x ++ l) (flat-written enc xs)

module _ {A : Type 0} (enc : A → List ℕ) (w : ℕ) (wide : (x : A) → length (enc x) ≡ w) (n : ℕ) (xs : List A) where
  chunks : length xs ≤ n → (a : List ℕ) × (flat (λ (l : List ℕ). l) (pad n (zeros w) (map enc xs)) ≡ flat enc xs ++ a)
  chunks h = (
    flat (λ (l : List ℕ). l) (replicate (n - length (map enc xs)) (zeros w)),
    rw (pad-fill (zeros w) n (map enc xs) (rw (length-map xs enc) h), flat_append (λ (l : List ℕ). l) (map enc xs) (replicate (n - length (map enc xs)) (zeros w)), flat-written enc xs),
  )

length-chunks : {A : Type 0} (enc : A → List ℕ) (w : ℕ) → ((x : A) → length (enc x) ≡ w) → (n : ℕ) (xs : List A) → length (flat (λ (l : List ℕ). l) (pad n (zeros w) (map enc xs))) ≡ n * w
unfolding flat pad
length-chunks enc w wide zero xs = sym (zero-mul w)
length-chunks enc w wide (suc n) [] = length-append (zeros w) _ ∙ rw (length-zeros w, length-chunks enc w wide n [], suc-mul n w) (omega arith)
length-chunks enc w wide (suc n) (x ∷ xs) = length-append (enc x) _ ∙ rw (wide x, length-chunks enc w wide n xs, suc-mul n w) (omega arith)

pub turned-holds : (fs : List Activation) → reverse (all_holds fs) ≡ flat turned (reverse fs)
unfolding all_holds flat
turned-holds [] = refl
turned-holds (f ∷ fs) =
    rw (reverse-append f.holds (all_holds fs), turned-holds fs, reverse-cons f fs, flat_append turned (reverse fs) (f ∷ []), append-nil (reverse f.holds))

module _ (h : List ℕ) (wide : length h ≡ 32) (fs : List Activation) (gs : List ℕ) (rs : List Made) where
  abbrev state : List ℕ
  state = state_bytes h (map activation_bytes (reverse fs)) (reverse gs) (map record_bytes rs)

  abbrev activation_row : List ℕ
  activation_row = flat (λ (l : List ℕ). l) (pad 32 (zeros 328) (map activation_bytes (reverse fs)))

  abbrev record_row : List ℕ
  record_row = flat (λ (l : List ℕ). l) (pad 256 (zeros 44) (map record_bytes rs))

  activations-at : drop 32 state ≡ activation_row ++ (pad 512 0 (reverse gs) ++ (record_row ++ zeros 2272))
  unfolding state_bytes
  activations-at = drop_at h _ 32 wide

  groups-at : drop 10528 state ≡ pad 512 0 (reverse gs) ++ (record_row ++ zeros 2272)
  unfolding state_bytes
  groups-at =
      drop-over h (activation_row ++ (pad 512 0 (reverse gs) ++ (record_row ++ zeros 2272))) 32 10496 wide
      ∙ drop_at activation_row _ 10496 (length-chunks activation_bytes 328 wide-activation 32 (reverse fs))

  records-at : drop 11040 state ≡ record_row ++ zeros 2272
  unfolding state_bytes
  records-at =
      drop-over h (activation_row ++ (pad 512 0 (reverse gs) ++ (record_row ++ zeros 2272))) 32 11008 wide
      ∙ drop-over activation_row (pad 512 0 (reverse gs) ++ (record_row ++ zeros 2272)) 10496 512 (length-chunks activation_bytes 328 wide-activation 32 (reverse fs))
      ∙ drop_at (pad 512 0 (reverse gs)) _ 512 (length-pad 0 512 (reverse gs))

-- what is decoded, from what stands at the places
module _ (m : Macro) (l : List ℕ) where
  decode-running : (n r h : ℕ) (x y z : List ℕ) → byte_at l 0 ≡ 0 → byte_at l 2 ≡ n → half_at l 4 ≡ r → half_at l 6 ≡ h → drop 32 l ≡ x → part 10528 512 l ≡ y → drop 11040 l ≡ z
      → n ≤ 32 → r ≤ 256 → (f : Activation) (fs : List Activation) (rs : List Made) → read_activations m n x y [] ≡ some (f ∷ fs) → read_records m r z ≡ some rs
      → length (all_holds (f ∷ fs)) ≡ h → decode m l ≡ some (running (record { records = rs }) f fs)
  unfolding decode read_running
  decode-running n r h x y z e0 e2 e4 e6 ex ey ez few small f fs rs ea er eh =
      rw (e0, e2, e4, e6, ex, ey, ez, le-leb n 32 few, le-leb r 256 small, ea, er, eq-eqb (length (all_holds (f ∷ fs))) h eh)

  decode-unwinding : (n c : ℕ) (y : List ℕ) → byte_at l 0 ≡ 1 → byte_at l 1 ≡ c → half_at l 6 ≡ n → part 10528 n l ≡ y → n ≤ 512 → decode m l ≡ some (unwinding (reverse y) (end_by c))
  unfolding decode read_unwinding
  decode-unwinding n c y e0 e1 e6 ey few = rw (e0, e6, le-leb n 512 few, e1, ey)

  decode-ended : (c : ℕ) → byte_at l 0 ≡ 2 → byte_at l 1 ≡ c → decode m l ≡ some (ended c)
  unfolding decode
  decode-ended c e0 e1 = rw (e0, e1)

module _ (m : Macro) (sh : Shared) (f : Activation) (fs : List Activation) (g : Good m sh f fs) where
  few : length (reverse (f ∷ fs)) ≤ 32
  few = rw (length-reverse (f ∷ fs)) g.few

  held : length (reverse (all_holds (f ∷ fs))) ≤ 512
  held = rw (length-reverse (all_holds (f ∷ fs))) (omega (arith, few-holds m (f ∷ fs) g.activations, g.few))

  read_back : decode m (encode (running sh f fs)) ≡ some (running sh f fs)
  unfolding encode
  read_back =
      let s = running sh f fs in let rs = sh.records in
      let gs = all_holds (f ∷ fs) in
      let xs = reverse (f ∷ fs) in
      let head = header_bytes 0 0 (length (f ∷ fs)) (length rs) (length gs) in
      let wide : length head ≡ 32 = length-header 0 0 (length (f ∷ fs)) (length rs) (length gs) in
      let rest = record_row head wide (f ∷ fs) gs rs ++ zeros 2272 in
      let a = chunks activation_bytes 328 wide-activation 32 xs few in
      let b = chunks record_bytes 44 wide-record 256 rs g.small in
      let z : List ℕ = replicate (512 - length (reverse gs)) 0 in
      let ex : drop 32 (encode s) ≡ flat activation_bytes xs ++ (a.0 ++ (pad 512 0 (reverse gs) ++ rest)) =
      activations-at head wide (f ∷ fs) gs rs ∙ rw a.1 (append_assoc (flat activation_bytes xs) a.0 (pad 512 0 (reverse gs) ++ rest)) in
      let ey : part 10528 512 (encode s) ≡ flat turned xs ++ z =
      rw (groups-at head wide (f ∷ fs) gs rs, take_at (pad 512 0 (reverse gs)) rest 512 (length-pad 0 512 (reverse gs)), ← turned-holds (f ∷ fs)) (pad-fill 0 512 (reverse gs) held) in
      let ez : drop 11040 (encode s) ≡ flat record_bytes rs ++ (b.0 ++ zeros 2272) =
      records-at head wide (f ∷ fs) gs rs ∙ rw b.1 (append_assoc (flat record_bytes rs) b.0 (zeros 2272)) in
      decode-running m (encode s) (length xs) (length rs) (length gs) _ _ _ (encode-reads phase tt s) (encode-reads activations tt s ∙ sym (length-reverse (f ∷ fs))) (encode-reads records tt s)
      (encode-reads holds tt s) ex ey ez few g.small f fs rs
      (read-activations m xs (each-reverse (GoodActivation m) (f ∷ fs) g.activations) _ z [] ∙ ap some (reverse-reverse (f ∷ fs)))
      (read-records m rs g.records _) refl

read-unwinding : (m : Macro) (gs : List ℕ) (c : ℕ) → sound m (unwinding gs (end_by c)) ≡ true → decode m (encode (unwinding gs (end_by c))) ≡ some (unwinding gs (end_by c))
unfolding encode sound
read-unwinding m gs c h =
    let s = unwinding gs (end_by c) in
    let head = header_bytes 1 c 0 0 (length gs) in
    let wide : length head ≡ 32 = length-header 1 c 0 0 (length gs) in
    let rest = record_row head wide [] gs [] ++ zeros 2272 in
    let a = halves (is_condition c) _ h in
    let n : length gs ≤ 512 = leb-true (length gs) 512 (halves (leb (length gs) 512) (all sound_group gs) a.1).0 in
    let ey : part 10528 (length gs) (encode s) ≡ reverse gs =
    rw (groups-at head wide [] gs [], pad-fill 0 512 (reverse gs) (rw (length-reverse gs) n), append_assoc (reverse gs) (replicate (512 - length (reverse gs)) 0) rest)
    (take_at (reverse gs) _ (length gs) (length-reverse gs)) in
    decode-unwinding m (encode s) (length gs) c (reverse gs) (encode-reads phase tt s) (encode-reads code tt s) (encode-reads holds tt s) ey n ∙ rw (reverse-reverse gs)

pub decode-encode : (m : Macro) → Sized m → (s : Machine) → sound m s ≡ true → decode m (encode s) ≡ some s
decode-encode m sized (running s f fs) h = read_back m s f fs (good m sized s f fs h)
decode-encode m sized (unwinding gs (end_by c)) h = read-unwinding m gs c h
decode-encode m sized (ended c) h = decode-ended m (encode (ended c)) c (encode-reads phase tt (ended c)) (encode-reads code tt (ended c))

-- Bytes that decode to a state, cleared, are its encoding: activations and records.
use Rattle.std.specs.Prelude.{◌≡◌, replicate}
use Rattle.std.proofs.Math.Path.{refl, sym, ap}
use Rattle.std.proofs.Common.{ap₂, ◌∙◌, length-drop, take-append-drop, drop_of_length-le, take-take, drop-drop, drop-cons, get_or-take, get_or-append-add}
use mathlib.Core.List.{List, [], ◌∷◌, ◌++◌, map, reverse, reverse_aux, append_assoc, append-nil}
use Rattle.std.proofs.Math.Option.{some}
use Prim.Native.Nat.{ℕ, zero, suc, ◌+◌, ◌*◌, ◌-◌, ◌/◌, ◌%◌, ◌≤◌}
use native.Mathlib.Omega.{arith}
use Rattle.std.proofs.Math.ListN.{length, take, drop, get_elem?, length-append, length-reverse}
use Rattle.std.proofs.lemmas.List.{length-map}
use Rattle.std.proofs.Math.Seq.{length-take-le, take-add}
use Rattle.bytecode.specs.Words.{value_word}
use Rattle.words.specs.Numbers.{byte_at, word}
use Rattle.words.specs.Laws.{Bytes}
use Rattle.values.specs.Types.{Ty}
use Rattle.bytecode.specs.Macro.{Body, Macro}
use Rattle.bytecode.specs.Instructions.{body_at}
use Rattle.bytecode.specs.Machine.{Activation, Made}
use Rattle.bytecode.specs.State.{flat, zeros, words_of, types_of, type_byte, word_of_cell, byte_of_cell, activation_bytes, record_bytes, read_activation, read_activations, read_record, read_records}
use Rattle.bytecode_layout.specs.Rows.{length-pad, pad-fill, flat_append}
use Rattle.bytecode_layout.specs.Parts.{length-words}
use Rattle.logic.specs.OptionLaws.{kept, same_some}
use Rattle.bytecode_layout.specs.Decode.{turned, wide-activation, wide-record}
use Rattle.bytecode_layout.specs.Inverse.{RowRead, ActivationRead, RecordRead, activation-read, record-read, bytes_drop}
use Rattle.bytecode_layout.specs.Cleared.{Gap, ◌⋯◌, wipes, activation_gaps, record_gaps, cell_count, field_count, clear_activations, clear_records, Clears, kept-part}
use Rattle.bytecode_layout.specs.Cleared.{cleared-from, both-parts, clears-as}

-- ── a row: what is in use, then zeros ──
blank-words : (k : ℕ) → flat word (replicate k 0) ≡ zeros (4 * k)
unfolding flat zeros
blank-words zero = refl
blank-words (suc k) = let e : 4 * suc k ≡ suc (suc (suc (suc (4 * k)))) = omega arith in rw (e, blank-words k)

zeros-are : (k : ℕ) → replicate k 0 ≡ zeros k
unfolding zeros
zeros-are k = refl

module _ {A : Type 0} (word_of byte_of : A → ℕ) (k n : ℕ) (ws ts : List ℕ) (xs : List A) (r : RowRead word_of byte_of k ws ts xs) (h : k ≤ n) where
  words-filled : take (4 * k) ws ++ zeros (4 * n - 4 * k) ≡ words_of n (map word_of xs)
  words-filled =
      let c : length (map word_of xs) ≡ k = length-map xs word_of ∙ r.count in
      let e : 4 * (n - k) ≡ 4 * n - 4 * k = omega arith in
      sym (rw (pad-fill 0 n (map word_of xs) (rw c h), c, flat_append word (map word_of xs) (replicate (n - k) 0), blank-words (n - k), r.words, e))

  types-filled : take k ts ++ zeros (n - k) ≡ types_of n (map byte_of xs)
  types-filled =
      let c : length (map byte_of xs) ≡ k = length-map xs byte_of ∙ r.count in
      sym (rw (pad-fill 0 n (map byte_of xs) (rw c h), c, r.types, zeros-are (n - k)))

-- rows of n, at an offset
module _ {A : Type 0} (word_of byte_of : A → ℕ) (b o k n : ℕ) (l : List ℕ) (ts : List ℕ) (xs : List A) (h : k ≤ n) where
  clears-words : RowRead word_of byte_of k l ts xs → 4 * n ≤ length l
      → Clears b o ((o + 4 * k ⋯ o + 4 * n) ∷ []) (take (4 * n) l) (words_of n (map word_of xs))
  clears-words r fits =
      clears-as refl (rw (take-take (4 * k) (4 * n) l (omega arith)) (words-filled word_of byte_of k n l ts xs r h))
      (cleared-from b o (4 * k) (4 * n) (take (4 * n) l) (length-take-le (4 * n) l fits) (omega arith))

module _ {A : Type 0} (word_of byte_of : A → ℕ) (b o k n : ℕ) (ws l : List ℕ) (xs : List A) (h : k ≤ n) where
  clears-types : RowRead word_of byte_of k ws l xs → n ≤ length l → Clears b o ((o + k ⋯ o + n) ∷ []) (take n l) (types_of n (map byte_of xs))
  clears-types r fits =
      clears-as refl (rw (take-take k n l h) (types-filled word_of byte_of k n ws l xs r h)) (cleared-from b o k n (take n l) (length-take-le n l fits) h)

-- the first four bytes
pub four_bytes : (x : List ℕ) → 4 ≤ length x → x ≡ byte_at x 0 ∷ byte_at x 1 ∷ byte_at x 2 ∷ byte_at x 3 ∷ drop 4 x
four_bytes x h = drop-cons x 0 0 (omega arith) ∙ rw (drop-cons x 1 0 (omega arith), drop-cons x 2 0 (omega arith), drop-cons x 3 0 (omega arith))

pub next-part : (i n : ℕ) (l : List ℕ) → drop i l ≡ take n (drop i l) ++ drop (i + n) l
next-part i n l = sym (take-append-drop n (drop i l)) ∙ rw (drop-drop n i l)

-- ── an activation ──
module _ (b : ℕ) where
  first-four : (x0 x1 x2 x3 : ℕ) → Clears b 0 ((3 ⋯ 4) ∷ []) (x0 ∷ x1 ∷ x2 ∷ x3 ∷ []) (x0 ∷ x1 ∷ x2 ∷ 0 ∷ [])
  unfolding zeros
  first-four x0 x1 x2 x3 = cleared-from b 0 3 4 (x0 ∷ x1 ∷ x2 ∷ x3 ∷ []) refl (omega arith)

  first_one : (x0 x1 x2 x3 : ℕ) → Clears b 0 ((1 ⋯ 4) ∷ []) (x0 ∷ x1 ∷ x2 ∷ x3 ∷ []) (x0 ∷ 0 ∷ 0 ∷ 0 ∷ [])
  unfolding zeros
  first_one x0 x1 x2 x3 = cleared-from b 0 1 4 (x0 ∷ x1 ∷ x2 ∷ x3 ∷ []) refl (omega arith)

  next-two : (x6 x7 : ℕ) → Clears b 6 ((6 ⋯ 8) ∷ []) (x6 ∷ x7 ∷ []) (0 ∷ 0 ∷ [])
  unfolding zeros
  next-two x6 x7 = cleared-from b 6 0 2 (x6 ∷ x7 ∷ []) refl (omega arith)

module _ (x : List ℕ) (wide : length x ≡ 328) (small : Bytes x) where
  activation-split : x ≡ (byte_at x 0 ∷ byte_at x 1 ∷ byte_at x 2 ∷ byte_at x 3 ∷ []) ++ ((byte_at x 4 ∷ byte_at x 5 ∷ []) ++ ((byte_at x 6 ∷ byte_at x 7 ∷ [])
      ++ (take 128 (drop 8 x) ++ (take 128 (drop 136 x) ++ (take 32 (drop 264 x) ++ take 32 (drop 296 x))))))
  activation-split =
      let last : drop 328 x ≡ [] = drop_of_length-le x {i = 328} (omega arith) in
      four_bytes x (omega arith)
      ∙ rw (drop-cons x 4 0 (omega arith), drop-cons x 5 0 (omega arith), drop-cons x 6 0 (omega arith), drop-cons x 7 0 (omega arith))
      (ap (λ (l : List ℕ). byte_at x 0 ∷ byte_at x 1 ∷ byte_at x 2 ∷ byte_at x 3 ∷ byte_at x 4 ∷ byte_at x 5 ∷ byte_at x 6 ∷ byte_at x 7 ∷ l)
      (next-part 8 128 x ∙ ap (λ (l : List ℕ). take 128 (drop 8 x) ++ l)
      (next-part 136 128 x ∙ ap (λ (l : List ℕ). take 128 (drop 136 x) ++ l)
      (next-part 264 32 x ∙ ap (λ (l : List ℕ). take 32 (drop 264 x) ++ l)
      (next-part 296 32 x ∙ rw last (append-nil (take 32 (drop 296 x))))))))

  module _ (m : Macro) (hs : List ℕ) (f : Activation) (r : ActivationRead m x hs f) (enough : 16 ≤ length hs) where
    open_is : length f.holds ≡ byte_at x 2
    open_is =
        let n : byte_at x 2 ≤ length hs = omega (arith, r.few-holds) in
        sym (length-reverse f.holds) ∙ ap length r.holds ∙ length-take-le (byte_at x 2) hs n

    depth_is : length f.operands ≡ byte_at x 1
    depth_is = sym (length-reverse f.operands) ∙ r.operands.count

    low-is : f.address % 256 ≡ byte_at x 4
    low-is = rw r.address (omega (arith, small 4))

    high_is : f.address / 256 ≡ byte_at x 5
    high_is = rw r.address (omega (arith, small 4))

    activation-cleared : (b : ℕ) → Clears b 0 (activation_gaps (length r.which.cells) (byte_at x 1)) x (activation_bytes f)
    unfolding activation_bytes
    activation-cleared b =
        let c = length r.which.cells in
        let d = byte_at x 1 in
        let cs = f.cells in
        let vs = reverse f.operands in
        let cw = map word_of_cell cs in let ct = map byte_of_cell cs in
        let vw = map value_word vs in let vt = map type_byte vs in
        let w1 = take 128 (drop 8 x) in
        let w2 = take 128 (drop 136 x) in
        let t1 = take 32 (drop 264 x) in
        let t2 = take 32 (drop 296 x) in
        let l1 : length w1 ≡ 128 = length-take-le 128 (drop 8 x) (rw (length-drop 8 x) (omega arith)) in
        let l2 : length w2 ≡ 128 = length-take-le 128 (drop 136 x) (rw (length-drop 136 x) (omega arith)) in
        let l3 : length t1 ≡ 32 = length-take-le 32 (drop 264 x) (rw (length-drop 264 x) (omega arith)) in
        let o1 : 8 + length w1 ≡ 136 = rw l1 in
        let o2 : 136 + length w2 ≡ 264 = rw l2 in
        let o3 : 264 + length t1 ≡ 296 = rw l3 in
        let k1 : Clears b 8 ((8 + 4 * c ⋯ 136) ∷ []) w1 (words_of 32 cw) =
        clears-words word_of_cell byte_of_cell b 8 c 32 (drop 8 x) (drop 264 x) cs r.few-cells r.cells (rw (length-drop 8 x) (omega arith)) in
        let k2 : Clears b 136 ((136 + 4 * d ⋯ 264) ∷ []) w2 (words_of 32 vw) =
        clears-words value_word type_byte b 136 d 32 (drop 136 x) (drop 296 x) vs r.few-operands r.operands (rw (length-drop 136 x) (omega arith)) in
        let k3 : Clears b 264 ((264 + c ⋯ 296) ∷ []) t1 (types_of 32 ct) =
        clears-types word_of_cell byte_of_cell b 264 c 32 (drop 8 x) (drop 264 x) cs r.few-cells r.cells (rw (length-drop 264 x) (omega arith)) in
        let k4 : Clears b 296 ((296 + d ⋯ 328) ∷ []) t2 (types_of 32 vt) =
        clears-types value_word type_byte b 296 d 32 (drop 136 x) (drop 296 x) vs r.few-operands r.operands (rw (length-drop 296 x) (omega arith)) in
        clears-as activation-split (rw (r.body, depth_is, open_is, low-is, high_is))
        (both-parts refl refl (first-four b (byte_at x 0) (byte_at x 1) (byte_at x 2) (byte_at x 3))
        (both-parts {o' = 6} refl refl (kept-part b 4 (byte_at x 4 ∷ byte_at x 5 ∷ []))
        (both-parts refl refl (next-two b (byte_at x 6) (byte_at x 7))
        (both-parts o1 (length-words 32 cw ∙ sym l1) k1
        (both-parts o2 (length-words 32 vw ∙ sym l2) k2
        (both-parts o3 (length-pad 0 32 ct ∙ sym l3) k3 k4))))))

-- ── a record ──
module _ (x : List ℕ) (wide : length x ≡ 44) where
  record-split : x ≡ (byte_at x 0 ∷ byte_at x 1 ∷ byte_at x 2 ∷ byte_at x 3 ∷ []) ++ (take 32 (drop 4 x) ++ take 8 (drop 36 x))
  record-split =
      let last : drop 44 x ≡ [] = drop_of_length-le x {i = 44} (omega arith) in
      four_bytes x (omega arith)
      ∙ ap (λ (l : List ℕ). byte_at x 0 ∷ byte_at x 1 ∷ byte_at x 2 ∷ byte_at x 3 ∷ l)
      (next-part 4 32 x ∙ ap (λ (l : List ℕ). take 32 (drop 4 x) ++ l) (next-part 36 8 x ∙ rw last (append-nil (take 8 (drop 36 x)))))

  record-cleared : (m : Macro) (r : Made) (q : RecordRead m x r) → length q.types ≤ 8 → (b : ℕ) → Clears b 0 (record_gaps (length q.types)) x (record_bytes r)
  unfolding record_bytes
  record-cleared m r q few b =
      let k = length q.types in
      let w = take 32 (drop 4 x) in
      let n : length w ≡ 32 = length-take-le 32 (drop 4 x) (rw (length-drop 4 x) (omega arith)) in
      let o : 4 + length w ≡ 36 = rw n in
      let k1 : Clears b 4 ((4 + 4 * k ⋯ 36) ∷ []) w (words_of 8 (map value_word r.fields)) =
      clears-words value_word type_byte b 4 k 8 (drop 4 x) (drop 36 x) r.fields few q.fields (rw (length-drop 4 x) (omega arith)) in
      let k2 : Clears b 36 ((36 + k ⋯ 44) ∷ []) (take 8 (drop 36 x)) (types_of 8 (map type_byte r.fields)) =
      clears-types value_word type_byte b 36 k 8 (drop 4 x) (drop 36 x) r.fields few q.fields (rw (length-drop 36 x) (omega arith)) in
      clears-as record-split (rw q.class)
      (both-parts refl refl (first_one b (byte_at x 0) (byte_at x 1) (byte_at x 2) (byte_at x 3)) (both-parts o (length-words 8 (map value_word r.fields) ∙ sym n) k1 k2))

-- ── all activations: those read from l on, and l cleared behind any p ──
pub record ActivationsRead (m : Macro) (n : ℕ) (l hs : List ℕ) (below fs : List Activation) : Type 0 where
  pub each : List Activation
  pub count : length each ≡ n
  pub stack : fs ≡ reverse_aux each below
  pub holds : flat turned each ≡ take (length (flat turned each)) hs
  pub becomes : (p : List ℕ) (b : ℕ) → length p ≡ b → clear_activations m n b (p ++ l) ≡ p ++ (flat activation_bytes each ++ drop (328 * n) l)

bytes_take : (n : ℕ) (l : List ℕ) → Bytes l → Bytes (take n l)
bytes_take zero l b k = omega arith
bytes_take (suc n) [] b k = omega arith
bytes_take (suc n) (x ∷ l) b zero = b 0
bytes_take (suc n) (x ∷ l) b (suc k) = bytes_take n l (λ j. b (suc j)) k

cells-counted : (m : Macro) (k : ℕ) (b : Body) → body_at m k ≡ some b → cell_count m k ≡ length b.cells
cells-counted m k b e = rw e

fields-counted : (m : Macro) (c : ℕ) (ts : List Ty) → get_elem? m.classes c ≡ some ts → field_count m c ≡ length ts
fields-counted m c ts e = rw e

-- a byte behind p
byte-behind : (p l : List ℕ) (b k : ℕ) → length p ≡ b → byte_at (p ++ l) (b + k) ≡ byte_at l k
byte-behind p l b k e = rw (← e) (get_or-append-add p l k 0)

byte-first : (p l : List ℕ) (b : ℕ) → length p ≡ b → byte_at (p ++ l) b ≡ byte_at l 0
byte-first p l b e = let i : b + 0 ≡ b = omega arith in rw i at (byte-behind p l b 0 e)

module _ (m : Macro) where
  -- one activation and those above it
  one-more : (n : ℕ) (l hs : List ℕ) (below fs : List Activation) (f : Activation) → length (take 328 l) ≡ 328 → Bytes (take 328 l) → 16 ≤ length hs
      → ActivationRead m (take 328 l) hs f → ActivationsRead m n (drop 328 l) (drop (byte_at l 2) hs) (f ∷ below) fs → ActivationsRead m (suc n) l hs below fs
  unfolding clear_activations flat
  one-more n l hs below fs f wide small enough r q =
      let x = take 328 l in
      let o : byte_at l 2 ≡ byte_at x 2 = sym (get_or-take 328 l 2 0 (omega arith)) in
      let d : byte_at l 1 ≡ byte_at x 1 = sym (get_or-take 328 l 1 0 (omega arith)) in
      let y : byte_at l 0 ≡ byte_at x 0 = sym (get_or-take 328 l 0 0 (omega arith)) in
      let c : cell_count m (byte_at l 0) ≡ length r.which.cells = rw y (cells-counted m (byte_at x 0) r.which r.known) in
      let ho : length (turned f) ≡ byte_at x 2 = length-reverse f.holds ∙ open_is x wide small m hs f r enough in
      let th : turned f ≡ take (byte_at l 2) hs = rw o r.holds in
      record {
        each = f ∷ q.each;
        count = ap suc q.count;
        stack = q.stack;
        holds =
            rw (length-append (turned f) (flat turned q.each), take-add (length (turned f)) (length (flat turned q.each)) hs, ho, ← o)
            (ap₂ (λ (s t : List ℕ). s ++ t) th q.holds);
        becomes = λ p b i.
            let bc : cell_count m (byte_at (p ++ l) b) ≡ length r.which.cells = rw (byte-first p l b i) c in
            let bd : byte_at (p ++ l) (b + 1) ≡ byte_at x 1 = byte-behind p l b 1 i ∙ d in
            let g : List Gap = activation_gaps (length r.which.cells) (byte_at x 1) in
            let h : length p ≡ b + 0 = omega arith in
            let one : wipes (p ++ l) b (activation_gaps (cell_count m (byte_at (p ++ l) b)) (byte_at (p ++ l) (b + 1))) ≡ (p ++ activation_bytes f) ++ drop 328 l =
            rw (bc, bd)
            (ap (λ (z : List ℕ). wipes (p ++ z) b g) (sym (take-append-drop 328 l))
            ∙ (activation-cleared x wide small m hs f r enough b).becomes p (drop 328 l) h ∙ sym (append_assoc p (activation_bytes f) (drop 328 l))) in
            let w : length (p ++ activation_bytes f) ≡ b + 328 = length-append p (activation_bytes f) ∙ rw (i, wide-activation f) in
            let e : 328 * suc n ≡ 328 + 328 * n = omega arith in
            ap (clear_activations m n (b + 328)) one ∙ q.becomes (p ++ activation_bytes f) (b + 328) w
            ∙ rw (drop-drop (328 * n) 328 l, e) (simp append_assoc);
      }

  pub activations-read : (n : ℕ) (l hs : List ℕ) (below fs : List Activation) → Bytes l → 328 * n ≤ length l → 16 * n ≤ length hs → read_activations m n l hs below ≡ some fs
      → ActivationsRead m n l hs below fs
  unfolding read_activations clear_activations flat
  activations-read zero l hs below fs small long enough e =
      record { each = []; count = refl; stack = sym (same_some e); holds = refl; becomes = λ p b i. refl }
  activations-read (suc n) l hs below fs small long enough e =
      let x = take 328 l in
      let k = kept (read_activation m x hs) _ fs e in
      let wide : length x ≡ 328 = length-take-le 328 l (omega arith) in
      let r = activation-read m x (bytes_take 328 l small) wide hs k.0 k.1 in
      let o : byte_at l 2 ≡ byte_at x 2 = sym (get_or-take 328 l 2 0 (omega arith)) in
      one-more n l hs below fs k.0 wide (bytes_take 328 l small) (omega arith) r
      (activations-read n (drop 328 l) (drop (byte_at l 2) hs) (k.0 ∷ below) fs (bytes_drop 328 l small) (rw (length-drop 328 l) (omega arith))
      (rw (length-drop (byte_at l 2) hs) (omega (arith, r.few-holds))) k.2)

-- ── all records ──
pub record RecordsRead (m : Macro) (n : ℕ) (l : List ℕ) (rs : List Made) : Type 0 where
  pub count : length rs ≡ n
  pub becomes : (p : List ℕ) (b : ℕ) → length p ≡ b → clear_records m n b (p ++ l) ≡ p ++ (flat record_bytes rs ++ drop (44 * n) l)

module _ (m : Macro) (few : (c : ℕ) (ts : List Ty) → get_elem? m.classes c ≡ some ts → length ts ≤ 8) where
  one-record : (n : ℕ) (l : List ℕ) (r : Made) (rs : List Made) → length (take 44 l) ≡ 44 → RecordRead m (take 44 l) r → RecordsRead m n (drop 44 l) rs → RecordsRead m (suc n) l (r ∷ rs)
  unfolding clear_records flat
  one-record n l r rs wide g q =
      let x = take 44 l in
      let y : byte_at l 0 ≡ byte_at x 0 = sym (get_or-take 44 l 0 0 (omega arith)) in
      let c : field_count m (byte_at l 0) ≡ length g.types = rw y (fields-counted m (byte_at x 0) g.types g.known) in
      record {
        count = ap suc q.count;
        becomes = λ p b i.
            let bc : field_count m (byte_at (p ++ l) b) ≡ length g.types = rw (byte-first p l b i) c in
            let h : length p ≡ b + 0 = omega arith in
            let one : wipes (p ++ l) b (record_gaps (field_count m (byte_at (p ++ l) b))) ≡ (p ++ record_bytes r) ++ drop 44 l =
            rw bc
            (ap (λ (z : List ℕ). wipes (p ++ z) b (record_gaps (length g.types))) (sym (take-append-drop 44 l))
            ∙ (record-cleared x wide m r g (few (byte_at x 0) g.types g.known) b).becomes p (drop 44 l) h ∙ sym (append_assoc p (record_bytes r) (drop 44 l))) in
            let w : length (p ++ record_bytes r) ≡ b + 44 = length-append p (record_bytes r) ∙ rw (i, wide-record r) in
            let e : 44 * suc n ≡ 44 + 44 * n = omega arith in
            ap (clear_records m n (b + 44)) one ∙ q.becomes (p ++ record_bytes r) (b + 44) w ∙ rw (drop-drop (44 * n) 44 l, e) (simp append_assoc);
      }

  pub records-read : (n : ℕ) (l : List ℕ) (rs : List Made) → Bytes l → 44 * n ≤ length l → read_records m n l ≡ some rs → RecordsRead m n l rs
  unfolding read_records clear_records flat
  records-read zero l rs small long e = rw (← same_some e) (record { count = refl; becomes = λ p b i. refl })
  records-read (suc n) l rs small long e =
      let x = take 44 l in
      let k = kept (read_record m x) _ rs e in
      let j = kept (read_records m n (drop 44 l)) _ rs k.2 in
      let wide : length x ≡ 44 = length-take-le 44 l (omega arith) in
      let g = record-read m x (bytes_take 44 l small) wide k.0 k.1 (few (byte_at x 0)) in
      rw (← same_some j.2) (one-record n l k.0 j.0 wide g (records-read n (drop 44 l) j.0 (bytes_drop 44 l small) (rw (length-drop 44 l) (omega arith)) j.1))

-- The fresh state of a macro, with the first of the root's cells written, and what each store makes of its bytes.
use Rattle.std.specs.Prelude.{◌≡◌, refl, List, [], ◌∷◌, ◌++◌, ℕ, zero, suc, ◌+◌, ◌*◌, ◌≤◌, ◌<◌, length, get_or, set}
use Rattle.std.proofs.Common.{sym, ap, ◌∙◌, zero-add, add-one, arith, below_more, ext_get_or, get_or-set_same, get_or-set_other}
use Rattle.std.proofs.lemmas.List.{length-replicate, get_or-replicate}
use Rattle.std.proofs.lemmas.List.Edits.{sets}
use Rattle.bytecode.specs.Words.{value_word}
use Rattle.words.specs.Numbers.{byte_at, word}
use Rattle.values.specs.Types.{Ty, integer, logical, bits, reference, ty_byte}
use Rattle.values.specs.Values.{Cell, initial, fresh, fresh_all}
use Rattle.bytecode.specs.Machine.{Machine, running, root_cells, fresh_machine}
use Rattle.bytecode.specs.State.{zeros, type_byte, encode, state_length, activations_at, activation_length, cell_words_at, cell_types_at}
use Rattle.load_places.specs.Records.{bodies, body_place}
use Rattle.load_places.specs.Index.{Well}
use Rattle.load_check.specs.Views.{span, span-length, span-snoc, view, ty_on, types_on, body_on, Typed, some-body}
use Rattle.bytecode_layout.specs.Steps.{cell-next-law}
use Rattle.bytecode_layout.specs.Phases.{begin-law}

-- the root with j cells, whose types stand in c at q
unfoldable pub fresh_with : List ℕ → ℕ → ℕ → Machine
fresh_with c q j = running (record { records = [] }) (record { body = 0; address = 0; cells = fresh_all (types_on c q j); operands = []; holds = [] }) []

-- ── with all its cells it is the fresh state ──
root-of : (c : List ℕ) (n : ℕ) → 0 < n → root_cells (span (λ k. body_on c (body_place c k)) 0 n) ≡ types_on c (body_place c 0 + 7) (byte_at c (body_place c 0 + 6))
unfolding span
root-of c zero h = absurd (omega arith)
root-of c (suc n) h = refl

pub fresh-is : (c : List ℕ) → Well c → fresh_with c (body_place c 0 + 7) (byte_at c (body_place c 0 + 6)) ≡ fresh_machine (view c)
unfolding fresh_with fresh_machine view
fresh-is c W = rw (root-of c (bodies c) (some-body c W))

-- ── the stores ──
pub cleared_more : (l : List ℕ) (i : ℕ) → i < length l → ((k : ℕ) → k < i → get_or l k 0 ≡ 0) → (k : ℕ) → k < i + 1 → get_or (set l i 0) k 0 ≡ 0
cleared_more l i h g = below_more (λ (k : ℕ). get_or (set l i 0) k 0 ≡ 0) i (λ k p. get_or-set_other l i k 0 0 (λ e. omega arith) ∙ g k p) (get_or-set_same l i 0 0 h)

zeros-at : (k : ℕ) → k < state_length → get_or (zeros state_length) k 0 ≡ 0
unfolding zeros
zeros-at k h = get_or-replicate state_length k 0 0 h

zeros-length : length (zeros state_length) ≡ state_length
unfolding zeros
zeros-length = length-replicate {A = ℕ} state_length 0

pub cleared-all : (l : List ℕ) → length l ≡ state_length → ((k : ℕ) → k < state_length → get_or l k 0 ≡ 0) → l ≡ zeros state_length
cleared-all l e g = ext_get_or 0 l (zeros state_length) (e ∙ sym zeros-length) (λ k p. let h : k < state_length = omega arith in g k h ∙ sym (zeros-at k h))

pub fresh-none : (c : List ℕ) (q : ℕ) → sets (zeros state_length) 2 (1 ∷ []) ≡ encode (fresh_with c q 0)
unfolding fresh_with span fresh_all
fresh-none c q = begin-law

fresh-more : (ts : List Ty) (t : Ty) → fresh_all (ts ++ (t ∷ [])) ≡ fresh_all ts ++ (fresh t ∷ [])
unfolding fresh_all
fresh-more [] t = refl
fresh-more (u ∷ ts) t = ap (λ (x : List Cell). fresh u ∷ x) (fresh-more ts t)

fresh-length : (ts : List Ty) → length (fresh_all ts) ≡ length ts
unfolding fresh_all
fresh-length [] = refl
fresh-length (t ∷ ts) = ap suc (fresh-length ts)

word_none : (t : Ty) → (value_word (initial t) ≡ 0) × (type_byte (initial t) ≡ ty_byte t)
word_none integer = (refl, refl)
word_none logical = (refl, refl)
word_none bits = (refl, refl)
word_none (reference c) = (refl, refl)

pub fresh-next : (c : List ℕ) (q n j : ℕ) → Typed c q n → j < n → n ≤ 32
    → sets (sets (encode (fresh_with c q j)) (activations_at + cell_words_at + 4 * j) (word 0)) (activations_at + cell_types_at + j) (byte_at c (q + j) ∷ []) ≡ encode (fresh_with c q (j + 1))
unfolding fresh_with
fresh-next c q n j t h few =
    let ts = types_on c q j in
    let ty = ty_on (byte_at c (q + j)) in
    let w = word_none ty in
    let e : length (fresh_all ts) ≡ j = fresh-length ts ∙ span-length _ j 0 in
    let p : activations_at + cell_words_at + 4 * j ≡ activations_at + activation_length * 0 + (cell_words_at + 4 * j) = omega arith in
    let r : activations_at + cell_types_at + j ≡ activations_at + activation_length * 0 + (cell_types_at + j) = omega arith in
    let s : types_on c q (j + 1) ≡ ts ++ (ty ∷ []) = ap (λ (k : ℕ). types_on c q k) (add-one j) ∙ span-snoc (λ k. ty_on (byte_at c (q + k))) j 0
    ∙ ap (λ (k : ℕ). ts ++ (ty_on (byte_at c (q + k)) ∷ [])) (zero-add j) in
    let g = cell-next-law (record { records = [] }) [] [] (omega arith) 0 0 (fresh_all ts) [] [] (initial ty) (rw e (omega arith)) in
    rw (s, fresh-more ts ty, p, r) (rw (e, w.0, w.1, t j h) at g)

-- One turn of each loop.
use mathlib.Core.Path.{◌≡◌, refl, sym, ap, ◌∙◌}
use mathlib.Core.List.{List}
use Prim.Native.Nat.{ℕ, suc, ◌+◌, ◌*◌, ◌-◌, ◌≤◌, ◌<◌}
use native.Mathlib.Omega.{arith}
use native.Mathlib.Numerals.{add-one}
use Rattle.words.specs.Numbers.{byte_at, word_at}
use Rattle.machine_frames.specs.Bytes.{popped, valued, cell_set}
use Rattle.machine_ops.specs.Moves.{dropped, filled, begun}
use Rattle.bytecode.specs.State.{operand_words_at, operand_types_at}

pub drop-begin : (l : List ℕ) (f n c : ℕ) → c ≤ n → dropped l f n c ≡ dropped l f n (n - (n - c))
drop-begin l f n c h = ap (dropped l f n) (omega arith)

pub drop-next : (l m k : List ℕ) (f n c j : ℕ) → n - c < j → dropped l f n c ≡ dropped m f j (j - (n - c)) → k ≡ popped m f (j - 1) → dropped l f n c ≡ dropped k f (j - 1) (j - 1 - (n - c))
unfolding dropped
drop-next l m k f n c j h e ek =
    let s : j - (n - c) ≡ suc (j - 1 - (n - c)) = omega arith in
    e ∙ rw (s, ek)

pub drop-end : (l m : List ℕ) (f n c j : ℕ) → j ≤ n - c → dropped l f n c ≡ dropped m f j (j - (n - c)) → m ≡ dropped l f n c
unfolding dropped
drop-end l m f n c j h e =
    let s : j - (n - c) ≡ 0 = omega arith in
    sym (e ∙ rw s)

pub fill_none : (l : List ℕ) (f k p q : ℕ) → l ≡ filled l f k p q 0
unfolding filled
fill_none l f k p q = refl

pub fill-next : (l m m' : List ℕ) (f k p q j w t : ℕ) → m ≡ filled l f k p q j → w ≡ word_at m (f + (operand_words_at + 4 * (k + j)))
    → t ≡ byte_at m (f + (operand_types_at + (k + j))) → m' ≡ valued m (p + 4 * j) (q + j) w t → m' ≡ filled l f k p q (j + 1)
unfolding filled
fill-next l m m' f k p q j w t e ew et em = rw (add-one j, ← e, ← ew, ← et) em

pub begin-next : (code l m k : List ℕ) (q g p c j : ℕ) → j < c → begun code q l g p (c - p) ≡ begun code q m g j (c - j) → k ≡ cell_set m g j 0 (byte_at code (q + j))
    → begun code q l g p (c - p) ≡ begun code q k g (j + 1) (c - (j + 1))
unfolding begun
begin-next code l m k q g p c j h e ek =
    let s : c - j ≡ suc (c - (j + 1)) = omega arith in
    e ∙ rw (s, ek)

pub begin-end : (code l m : List ℕ) (q g p c j : ℕ) → c ≤ j → begun code q l g p (c - p) ≡ begun code q m g j (c - j) → m ≡ begun code q l g p (c - p)
unfolding begun
begin-end code l m q g p c j h e =
    let s : c - j ≡ 0 = omega arith in
    sym (e ∙ rw s)

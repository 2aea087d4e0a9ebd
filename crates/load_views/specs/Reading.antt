-- Refusal 8: the records of a macro are read from its bytes exactly where the tests of their places pass, and what is read is the view.
use Rattle.std.specs.Prelude.{◌≡◌, refl, Bool, false, not, cond, List, [], eqb, ltb, length, drop}
use Rattle.std.proofs.Math.Option.{Option, none, some}
use Prim.Native.Nat.{ℕ, zero, suc, ◌+◌, ◌-◌, ◌≤◌, ◌<◌}
use Rattle.std.proofs.Math.Nat.{add-zero, add-suc}
use Rattle.std.proofs.Common.{zero-add, suc-add, add-one, arith, length-drop}
use borrow.Author.Tests.{eqb-true, lt-ltb, le-ltb}
use Rattle.logic.specs.Choice.{If◌then◌else◌}
use Rattle.words.specs.Numbers.{byte_at}
use Rattle.values.specs.Ends.{refusal, Judged, accepted, refused}
use Rattle.bytecode.specs.Macro.{Cut, cut, Macro, Parsed, parsed, unread as unread_at, or_unread, records, onward, head_reads, read_end as read_last, parse_macro, read_or8, read_macro}
use Rattle.load_places.specs.Search.{seek, first}
use Rattle.load_places.specs.Records.{classes, bodies, count, shapes, class_place, body_place, code_base, code_place, shape_place, no_mark, bad_head, bad_class, bad_body, bad_code}
use Rattle.load_places.specs.Records.{bad_shape, Read, reads, unread, read_end, among, read_records}
use Rattle.load_views.specs.Lists.{span, backs, reverse-backs}
use Rattle.logic.specs.Tests.{tests, by-test, together, leb-not}
use Rattle.load_views.specs.View.{class_on, body_on, code_on, placed_on, view}
use Rattle.load_views.specs.Readers.{marked-at, mark-room, class-reads, body_reads, code_reads, shape-reads}

-- where none is the first, a test holds nowhere
pub none_first : (f : ℕ → Bool) (n j : ℕ) → j + n ≤ seek f n j → (k : ℕ) → j ≤ k → k < j + n → f k ≡ false
unfolding seek
none_first f zero j h k a b = absurd (omega arith)
none_first f (suc n) j h k a b =
    by-test (f j) (λ e. let g : j + suc n ≤ j = rw e at h in absurd (omega arith))
    (λ e. let g : j + suc n ≤ seek f n (suc j) = rw e at h in
    by-test (eqb k j) (λ q. rw (eqb-true k j q) e) (λ q. none_first f n (suc j) (omega arith) k (omega tests) (omega arith)))

-- what is read, by what the places say
abbrev pub told : List ℕ → Read → Judged Macro
told l reads = accepted (view l)
told l (unread k) = refused (refusal 8 k)

-- ── records, one after another ──
module _ {A : Type 0} (l : List ℕ) (read : List A → List ℕ → Option (Cut A)) (made : ℕ → A) (place : ℕ → ℕ) (bad : ℕ → Bool)
    (at : (k : ℕ) → read (backs made k) (drop (place k) l) ≡ (If bad k then none else some (cut (made k) (drop (place (suc k)) l)))) where
  records-from : (i n k : ℕ)
      → records read n (backs made k) (i + k) (drop (place k) l)
      ≡ cond (ltb (seek bad n k) (k + n)) (unread_at (i + seek bad n k)) (parsed (span made 0 (k + n)) (i + (k + n)) (drop (place (k + n)) l))
  unfolding records or_unread seek backs
  records-from i zero k = rw (le-ltb k (k + 0) (omega arith), add-zero k, reverse-backs made k)
  records-from i (suc n) k =
      rw (at k)
      (by-test (bad k)
      (λ h. rw (h, lt-ltb k (k + suc n) (omega arith)))
      (λ h. rw (h, ← add-suc i k, records-from i n (suc k)) (rw (suc-add k n, add-suc k n))))

  told-records : {start : ℕ} → place 0 ≡ start → (i n : ℕ) (g : List A → ℕ → List ℕ → Parsed Macro) (rest : Read)
      → read_or8 (g (span made 0 n) (i + n) (drop (place n) l)) ≡ told l rest
      → read_or8 (onward (records read n [] i (drop start l)) g) ≡ told l (among (first bad n) n i rest)
  unfolding backs onward
  told-records s i n g rest h =
      rw (← s, rw (zero-add n, add-zero i) at (records-from i n 0)) (by-test (ltb (first bad n) n) (λ q. rw q) (λ q. rw q h))

-- ── a whole macro ──
head-told : (l : List ℕ) → head_reads l ≡ not (bad_head l)
unfolding head_reads bad_head
head-told l =
    rw (marked-at l 0 8 72 68 (omega arith), leb-not (byte_at l 2) 16, leb-not 1 (byte_at l 3), leb-not (byte_at l 3) 64)
    (by-test (no_mark l 0 8 72 68) (λ h. rw h)
    (λ h. rw h (by-test (ltb 16 (byte_at l 2)) (λ h. rw h) (λ h. rw h (by-test (ltb (byte_at l 3) 1) (λ h. rw h) (λ h. rw h))))))

end-told : (l : List ℕ) (p k : ℕ) → read_or8 (read_last (view l) k (drop p l)) ≡ told l (read_end l p k)
unfolding read_last read_end
end-told l p k =
    rw (marked-at l p 2 90 90 (omega arith))
    (by-test (no_mark l p 2 90 90) (λ h. rw h)
    (λ h. let room : p + 2 ≤ length l = mark-room l p 2 90 90 h in
    let e : eqb (length l - p) 2 ≡ eqb (length l) (p + 2) =
    together (eqb (length l - p) 2) (eqb (length l) (p + 2)) (λ q. omega tests) (λ q. omega tests) in
    rw (h, length-drop p l, e, add-one k) (by-test (eqb (length l) (p + 2)) (λ q. rw q) (λ q. rw q))))

pub macro-told : (l : List ℕ) → read_macro l ≡ told l (read_records l)
unfolding read_macro parse_macro read_records class_place body_place shape_place view
macro-told l =
    rw (head-told l)
    (by-test (bad_head l) (λ h. rw h)
    (λ h. rw h
    (told-records l _ (λ k. class_on l (class_place l k)) (class_place l) (bad_class l) (λ k. class-reads l k _) refl 1 (classes l) _ _
    (told-records l _ (λ k. body_on l (body_place l k)) (body_place l) (bad_body l) (body_reads l) refl (1 + classes l) (bodies l) _ _
    (told-records l _ (λ i. code_on l (code_place l i)) (code_place l) (bad_code l) (λ i. code_reads l i _) (add-zero (code_base l))
    (1 + classes l + bodies l) (count l) _ _
    (told-records l _ (λ k. placed_on l (shape_place l k)) (shape_place l) (bad_shape l) (shape-reads l) refl
    (1 + classes l + bodies l + count l) (shapes l) _ _
    (end-told l (shape_place l (shapes l)) _)))))))

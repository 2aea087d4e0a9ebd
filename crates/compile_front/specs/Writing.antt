-- Bytes that are written one after the other: whatever finishes the rest finishes the whole.
use Rattle.std.specs.Prelude.{◌≡◌, refl, List, [], ◌++◌, ℕ, ◌+◌, ◌≤◌, length}
use Rattle.std.proofs.Common.{ap, sym, ◌∙◌, arith, add-zero, length-append}
use Rattle.std.proofs.lemmas.List.Edits.{sets}
use Rattle.std.proofs.Math.Seq.{length-sets}
use Rattle.compile_bytes.specs.Stores.{sets-join}

-- bytes were written at a place, and where they end
pub record Wrote (old : List ℕ) (at : ℕ) (bytes new : List ℕ) (r : ℕ) : Type 0 where
  pub written : new ≡ sets old at bytes
  pub ends : r ≡ at + length bytes

pub wrote-long : {old new bytes : List ℕ} {at r : ℕ} → Wrote old at bytes new r → length new ≡ length old
wrote-long {old} {new} {bytes} {at} h = ap length h.written ∙ length-sets old at bytes

pub wrote_nothing : (old : List ℕ) (at : ℕ) → Wrote old at [] old at
wrote_nothing old at = record { written = refl; ends = sym (add-zero at) }

pub wrote_as : {old new xs ys : List ℕ} {at r : ℕ} → Wrote old at xs new r → xs ≡ ys → Wrote old at ys new r
wrote_as h e = rw e at h

pub wrote_then : {old mid new xs ys : List ℕ} {at p q : ℕ} → Wrote old at xs mid p → Wrote mid p ys new q → Wrote old at (xs ++ ys) new q
wrote_then {old} {mid} {new} {xs} {ys} {at} {p} {q} h k =
    record {
      written = k.written ∙ (ap (λ (m : List ℕ). sets m p ys) h.written ∙ sets-join old at p xs ys h.ends);
      ends = omega (arith, h.ends, k.ends, length-append xs ys);
    }

-- some of them are written, the rest is to come
pub record Writing (old : List ℕ) (at : ℕ) (total new : List ℕ) (place : ℕ) (rest : List ℕ) : Type 0 where
  pub same : sets new place rest ≡ sets old at total
  pub whole : place + length rest ≡ at + length total
  pub long : length new ≡ length old

pub writing_start : (old : List ℕ) (at : ℕ) (total : List ℕ) → Writing old at total old at total
writing_start old at total = record { same = refl; whole = refl; long = refl }

module _ {old total new rest : List ℕ} {at place : ℕ} (s : Writing old at total new place rest) where
  pub writing-next : (xs ys : List ℕ) {late : List ℕ} {q : ℕ} → rest ≡ xs ++ ys → Wrote new place xs late q → Writing old at total late q ys
  writing-next xs ys {late} {q} e w =
      record {
        same = ap (λ (m : List ℕ). sets m q ys) w.written ∙ (sets-join new place q xs ys w.ends ∙ (ap (sets new place) (sym e) ∙ s.same));
        whole = omega (arith, w.ends, s.whole, ap length e, length-append xs ys);
        long = wrote-long w ∙ s.long;
      }

  pub writing-room : (xs ys : List ℕ) → rest ≡ xs ++ ys → at + length total ≤ length old → place + length xs ≤ length new
  writing-room xs ys e h = omega (arith, s.whole, s.long, ap length e, length-append xs ys)

  pub writing-end : rest ≡ [] → Wrote old at total new place
  writing-end e = record { written = rw e at s.same; ends = omega (arith, s.whole, ap length e) }

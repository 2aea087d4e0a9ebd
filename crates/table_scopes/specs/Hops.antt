-- From part to part by their sizes, `left` of them being left.
use Rattle.std.specs.Prelude.{◌≡◌, refl, List, ℕ, ◌+◌, ◌-◌, ◌/◌, ◌≤◌, ◌<◌, length, drop}
use Rattle.std.proofs.Common.{ap, arith}
use Rattle.language_laws.specs.Claims.{entries_of}
use Rattle.table_entries.specs.Spans.{span, span-zero, hop, hop-within, hop-none}
use Rattle.table_entries.specs.Entries.{entries-length}

pub record Hops (l : List ℕ) (from parts at left : ℕ) : Type 0 where
  pub same : at + span left (drop at (entries_of l)) ≡ from + span parts (drop from (entries_of l))
  pub within : at ≤ length l / 8
  pub least : from ≤ at

pub hops-start : (l : List ℕ) (from parts : ℕ) → from ≤ length l / 8 → Hops l from parts from parts
hops-start l from parts h = record { same = refl; within = h; least = omega arith }

module _ {l : List ℕ} {from parts at left : ℕ} (h : Hops l from parts at left) where
  pub hops-next : (n : ℕ) → 0 < left → n ≡ span 1 (drop at (entries_of l)) → Hops l from parts (at + n) (left - 1)
  hops-next n k e =
      let es = entries_of l in
      let w : at + span 1 (drop at es) ≤ length es = hop-within 1 es at (omega (arith, h.within, entries-length l)) in
      rw e (record { same = omega (arith, hop left es at k, h.same); within = omega (arith, entries-length l); least = omega (arith, h.least) })

  pub hops-early : length l / 8 ≤ at → at - from ≡ span parts (drop from (entries_of l))
  hops-early k = omega (arith, hop-none left (entries_of l) at (omega (arith, entries-length l)), h.same, h.least)

  pub hops-end : left ≡ 0 → at - from ≡ span parts (drop from (entries_of l))
  hops-end e = omega (arith, h.same, span-zero (drop at (entries_of l)), ap (λ (n : ℕ). span n (drop at (entries_of l))) e, h.least)

-- `compile_front::put_same` meets its contract: what a slice's part holds after the filling is what `sets` leaves.
use Rattle.std.proofs.Common.{◌≡◌, ◌∙◌, ap, sym, arith, ℕ, List, ◌++◌, ◌-◌, ◌+◌, length, take, drop, replicate, take_all, length-drop, length-take-le}
use Rattle.std.proofs.lemmas.List.{length-replicate}
use Rattle.std.proofs.lemmas.List.Edits.{sets-eq}
use Rattle.std.proofs.lemmas.Slice.{put_mid-paste}
use Rattle.compile_front.proofs.put_same.Goals as goal

pub returns : goal.returns
returns c =
    let a = c.args in
    let t = replicate a.count a.ty in
    let long : length t ≡ a.count = length-replicate a.count a.ty in
    let k = a.from + a.count - a.from in
    let some : length (take k (drop a.from a.out.now)) ≡ a.count =
    length-take-le k (drop a.from a.out.now) (omega (arith, length-drop a.from a.out.now)) ∙ (let z : k ≡ a.count = omega arith in z) in
    let filled : c.fill.new.self ≡ t = c.fill.ensures.after (λ y e. e) ∙ ap (λ (n : ℕ). replicate n a.ty) some in
    let whole = sets-eq t a.out.now a.from (omega arith) in
    record {
      written = put_mid-paste a.from k a.out.now c.fill.new.self t a.count filled (omega arith) (sym long)
          ∙ (ap (λ (u : List ℕ). take a.from a.out.now ++ u ++ drop (a.from + a.count) a.out.now) (take_all a.count t (omega arith)) ∙ sym (rw long at whole));
      ends = omega arith;
    }

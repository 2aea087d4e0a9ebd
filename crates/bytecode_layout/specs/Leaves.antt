-- An activation taken off at once.
use Rattle.std.specs.Prelude.{◌≡◌, List, [], ◌∷◌, reverse, map, ℕ, ◌<◌, length}
use Rattle.std.proofs.Common.{sym, ap, ◌∙◌}
use Rattle.std.proofs.lemmas.List.Edits.{sets}
use Rattle.bytecode.specs.Machine.{Activation, Shared, running, all_holds}
use Rattle.bytecode.specs.State.{zeros, encode}
use Rattle.bytecode_layout.specs.Rows.{pad-blank}
use Rattle.bytecode_layout.specs.Focus.{part-sets}
use Rattle.bytecode_layout.specs.Parts.{parts_bytes, no_frame, frame_of, wide-frame, blank-frame, encode-parts}
use Rattle.bytecode_layout.specs.Places.{activations, frame_place}
use Rattle.bytecode_layout.specs.Stores.{◌≔◌, stores, stores-put}
use Rattle.bytecode_layout.specs.Edits.{raw_on, encode-raw, raw-focus}

-- all of the top's bytes, where it has no open hold
pub drop-law : (rs : Shared) (g f : Activation) (fs : List Activation) → length (f ∷ fs) < 32 → g.holds ≡ []
    → stores (sets (encode (running rs g (f ∷ fs))) (frame_place (length (f ∷ fs))) (zeros 328)) (activations ≔ length (f ∷ fs) ∷ []) ≡ encode (running rs f fs)
unfolding all_holds
drop-law rs g f fs few e =
    let l : sets (encode (running rs g (f ∷ fs))) (frame_place (length (f ∷ fs))) (zeros 328) ≡ parts_bytes (raw_on rs [] g (f ∷ fs) no_frame) =
    rw (encode-raw rs [] g (f ∷ fs), blank-frame)
    (part-sets (raw-focus rs [] g (f ∷ fs) few (frame_of g)) no_frame (wide-frame (frame_of g) ∙ sym (wide-frame no_frame))) in
    ap (λ (l : List ℕ). stores l (activations ≔ length (f ∷ fs) ∷ [])) l
    ∙ stores-put (raw_on rs [] g (f ∷ fs) no_frame) (activations ≔ length (f ∷ fs) ∷ []) (tt, tt)
    ∙ rw (encode-parts (running rs f fs), e, pad-blank no_frame 32 (map frame_of (reverse (f ∷ fs))))

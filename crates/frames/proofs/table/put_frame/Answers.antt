-- Word by word: each store changes one word of the record that stands at the place, and the last leaves the whole record.
use Rattle.std.proofs.Common.{◌≡◌, refl, ap, ◌∙◌, List, ℕ, ◌<◌, length, get_or, set, get_or-set_same, set-set}
use Rattle.frames.specs.declared.Frame.{Frame}
use Rattle.frames.specs.Frames.{set_frame, free_record}
use Rattle.frames.proofs.table.put_frame.Goals as goal

-- the record x was stored at p, and then with a change k
again : (fs gs : List Frame) (p : ℕ) (x : Frame) (k : Frame → Frame) → p < length fs → gs ≡ set fs p x → set gs p (k (get_or gs p (free_record 0))) ≡ set fs p (k x)
again fs gs p x k b e =
    ap (λ (ws : List Frame). set ws p (k (get_or ws p (free_record 0)))) e ∙ ap (λ (y : Frame). set (set fs p x) p (k y)) (get_or-set_same fs p x (free_record 0) b) ∙ set-set fs p x (k x)

pub returns : goal.returns
unfolding set_frame
returns c =
    let fs : List Frame = c.args.frames.now in
    let p : ℕ = c.args.p in
    let f : Frame = c.args.f in
    let b : p < length fs = c.requires in
    let x1 : Frame = record (get_or fs p (free_record 0)) { live = f.live } in
    let s1 : set fs p x1 ≡ set fs p x1 = refl in
    let s2 = again fs _ p _ (λ r. record r { parent = f.parent }) b s1 in
    let s3 = again fs _ p _ (λ r. record r { depth = f.depth }) b s2 in
    let s4 = again fs _ p _ (λ r. record r { outstanding = f.outstanding }) b s3 in
    let s5 = again fs _ p _ (λ r. record r { suspended = f.suspended }) b s4 in
    let s6 = again fs _ p _ (λ r. record r { root = f.root }) b s5 in
    let s7 = again fs _ p _ (λ r. record r { returning = f.returning }) b s6 in
    let s8 = again fs _ p _ (λ r. record r { view = record r.view { sum = record { value = f.view.sum.value } } }) b s7 in
    let s9 = again fs _ p _ (λ r. record r { view = record r.view { min = record { value = f.view.min.value } } }) b s8 in
    let s10 = again fs _ p _ (λ r. record r { view = record r.view { affine = record r.view.affine { multiplier = f.view.affine.multiplier } } }) b s9 in
    let s11 = again fs _ p _ (λ r. record r { view = record r.view { affine = record r.view.affine { addend = f.view.affine.addend } } }) b s10 in
    again fs _ p _ (λ r. record r { younger = f.younger }) b s11

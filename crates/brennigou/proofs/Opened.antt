-- What does the reader's answer say of the file? It is refused by that number, or the problem is sound and has the campaign that the file says.
use mathlib.Core.Path.{◌≡◌, refl, sym, ap, ◌∙◌}
use mathlib.Core.List.{List}
use Prim.Native.Nat.{ℕ}
use lib.IntN.{ℤ}
use Rattle.std.specs.Prelude.{Result, Ok, Err, OnOk, ⊤}
use Rattle.refusal.specs.declared.Refusal.{Refusal}
use Rattle.refusal.specs.Refusals.{number_of}
use Rattle.meaning.specs.Plan.{Campaign}
use Rattle.meaning.specs.Problem.{version1, campaign}
use Rattle.meaning.specs.Problem as paper
use Rattle.meaning.specs.File.{Got, refused, got, read_of}
use Rattle.meaning.specs.Calls.{Lent, read, opened, no_bound, relaxed_of, relaxed_call, restricted_of, restricted_call, no_count, page_on, page_call, empty_start, better_of, better}
use Rattle.problem.specs.declared.Problem.{Problem}
use Rattle.problem.specs.Held.{campaign_of, fault_in}
use Rattle.problem.proofs.Again.{accepted_held}
use Rattle.diagram.proofs.Refused.{numbered}
use Rattle.rtp.specs.Reading.{Reading, reading_of, read_as, reading_in}
use Rattle.rtp.proofs.Accepted.{says, faultless}
use Rattle.brennigou.specs.Answers.{campaign_read, campaign_laid}

abbrev read_opened : Got paper.Problem → Result Campaign ℕ
read_opened g = opened g Err Ok

-- an accepted file
pub sound_read : (f : List ℕ) (p : Problem) → reading_of (Ok p) ≡ read_as (read f) → (fault_in version1 p ≡ 0) × (Ok (campaign_of p) ≡ campaign_read f)
sound_read f p e =
    let s = says f p e in
    let again = accepted_held f s.said s.rest s.accepted in
    (faultless f p e, ap (λ (x : Problem). Ok (campaign_of x)) s.is ∙ ap (λ (x : paper.Problem). Ok (campaign x)) again.0 ∙ sym (ap read_opened s.accepted))

-- any file, read into a problem that is lent: its campaign, or the number of its first fault
pub campaign_found : (f : List ℕ) (r : Result ⊤ Refusal) (p : Problem) → reading_in r p ≡ read_as (read f) → campaign_laid r p ≡ campaign_read f
campaign_found f (Ok u) p e = (sound_read f p e).1
campaign_found f (Err x) p e = go (read_of f) refl
  where
    go : (g : Got paper.Problem) → read_of f ≡ g → Err (number_of x) ≡ campaign_read f
    go (refused k) h = ap Err (ap (λ (y : Reading). y.number) e ∙ rw h refl) ∙ sym (ap read_opened h)
    go (got q t) h =
        let none : number_of x ≡ 0 = ap (λ (y : Reading). y.number) e ∙ rw h refl in
        absurd (numbered x none)

pub sound_found : (f : List ℕ) (r : Result ⊤ Refusal) (p : Problem) → reading_in r p ≡ read_as (read f) → OnOk r (fault_in version1 p ≡ 0)
sound_found f (Ok u) p e = faultless f p e
sound_found f (Err x) p e = tt

-- ---- any operation does what the answer says: it refuses, or goes on with the campaign
abbrev pub onward : {A : Type 0} → Result Campaign ℕ → (ℕ → A) → (Campaign → A) → A
onward (Ok q) refusal done = done q
onward (Err k) refusal done = refusal k

pub opened_as : {A : Type 0} (f : List ℕ) (refusal : ℕ → A) (done : Campaign → A) {r : Result Campaign ℕ} → r ≡ campaign_read f → opened (read_of f) refusal done ≡ onward r refusal done
opened_as {A} f refusal done e = go (read_of f) ∙ ap (λ (r : Result Campaign ℕ). onward r refusal done) (sym e)
  where
    go : (g : Got paper.Problem) → opened g refusal done ≡ onward (read_opened g) refusal done
    go (refused k) = refl
    go (got q t) = refl

-- each operation; the ceiling is read back from its bits
module _ (f : List ℕ) {q : Campaign} (e : Ok q ≡ campaign_read f) where
  pub relaxed_read : (w n : ℕ) {b c : ℤ} → b ≡ c → (l : Lent) → relaxed_of q w n b l ≡ relaxed_call f w n c l
  relaxed_read w n {c = c} h l = ap (λ z. relaxed_of q w n z l) h ∙ sym (opened_as f (no_bound l) (λ x. relaxed_of x w n c l) e)

  pub restricted_read : (w : ℕ) (l : Lent) → restricted_of q w l ≡ restricted_call f w l
  restricted_read w l = sym (opened_as f (no_bound l) (λ x. restricted_of x w l) e)

  pub better_read : (a b : List ℕ) → better_of q a b ≡ better f a b
  better_read a b = sym (opened_as f (λ k. empty_start) (λ x. better_of x a b) e)

  pub page_read : (w n : ℕ) {b c : ℤ} → b ≡ c → (s : List ℕ) (l : Lent) → page_on q w n b s l ≡ page_call f w n c s l
  page_read w n {c = c} h s l = ap (λ z. page_on q w n z s l) h ∙ sym (opened_as f (no_count l) (λ x. page_on x w n c s l) e)

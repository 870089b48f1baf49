-- A claim that is given.
use Rattle.std.proofs.Common.{◌≡◌, ℕ, ◌+◌, ◌++◌, drop, List, Some, Ok, sym, ap, ◌∙◌}
use Rattle.wire.specs.declared.request.TheConstants.{REQUEST}
use Rattle.wire.specs.Request.{request}
use Rattle.handover.specs.Words.{on_ok, answer}
use Rattle.channel.specs.declared.claim.Claim.{Claim}
use Rattle.channel.specs.States.{Opened, State}
use Rattle.channel.specs.Calls.{claim_verdict, claim_answer, claim_after, claim_buffer, reclaimed}
use Rattle.channel.proofs.Verdicts.{claim_found}

-- what a claim comes to
pub record Given {M : Type 0} (c : State M) (time : ℕ) (b : List ℕ) (k : Claim) (d : State M) (e : List ℕ) : Type 0 where
  pub answer : Ok k ≡ claim_answer c b
  pub after : d ≡ claim_after c b
  pub buffer : e ≡ claim_buffer c time b

-- from the verdict and what was written
pub given : {M : Type 0} (c : State M) (time : ℕ) (b : List ℕ) (o : Opened) (k : Claim) (w : List ℕ) → Ok (o, k) ≡ claim_verdict c b
    → w ≡ request time k.begin k.end o.source → Given c time b k (reclaimed c (Some k) k.serial o) (w ++ drop REQUEST b)
given c time b o k w verdict wrote =
    let count : k.serial ≡ o.claims + 1 = ap (λ (x : Claim). x.serial) (claim_found c b (o, k) (sym verdict)).claim in
    record {
      answer = ap (λ r. answer r (λ v. v.1)) verdict;
      after = ap (λ n. reclaimed c (Some k) n o) count ∙ ap (λ r. on_ok r (λ v. reclaimed c (Some v.1) (v.0.claims + 1) v.0) c) verdict;
      buffer = ap (λ (v : List ℕ). v ++ drop REQUEST b) wrote ∙ ap (λ r. on_ok r (λ v. request time v.1.begin v.1.end v.0.source ++ drop REQUEST b) b) verdict;
    }

-- Record by record, the first wrong call of all is found.
use Prim.Native.Nat.{ℕ, zero, suc, ◌+◌, ◌≤◌, ◌<◌}
use mathlib.Core.Path.{◌≡◌, refl, sym, ap, ◌∙◌}
use mathlib.Core.Logic.{◌≢◌}
use mathlib.Core.Bool.{Bool, true, false, cond, false≢true}
use mathlib.Core.List.{List}
use native.Mathlib.Omega.{arith}
use lib.ListN.{drop}
use Rattle.names.specs.Sizes.{base}
use Rattle.names.specs.declared.Answer.{Answer}
use Rattle.rules.specs.Tables.{Tables}
use Rattle.rules.specs.Step.{step}
use Rattle.call_words.specs.Calls.{is_call, call_in}
use Rattle.call_words.specs.declared.Fields.{Fields}
use Rattle.journal.specs.Words.{greatest}
use Rattle.journal.specs.Format.{record_size, call_at, answer_at, calls_in, answers_in}
use Rattle.judge.specs.Verdicts.{right, wrong_from}
use Rattle.judge.specs.Pieces.{Progress, one_more, only_counted, seen_one, seen_all}
use Rattle.judge.proofs.Steps.{one_more_lem, counted, no_call_lem, made}

-- the first wrong call stays
pub stays : (n : ℕ) (cs rs : List ℕ) (p : Progress) → p.wrong ≢ 0 → (seen_all n cs rs p).wrong ≡ p.wrong
unfolding seen_all
stays zero cs rs p d = refl
stays (suc n) cs rs p d =
    ap (λ (q : Progress). (seen_all n (drop record_size cs) (drop record_size rs) q).wrong) (counted (call_at 0 cs) (answer_at 0 rs) p d)
    ∙ stays n (drop record_size cs) (drop record_size rs) (only_counted p) d

-- ---- one call: it is right, and the next ones decide, or it is the first wrong one

one_more-suc : (k : ℕ) → k < greatest → one_more k ≡ suc k
one_more-suc k h = one_more_lem k h ∙ omega arith

-- what is no call is not right
no_call-wrong : (f : Fields) (a : Answer) (G : Tables) → is_call f ≡ false → right f a G ≡ false
unfolding right
no_call-wrong f a G h = rw h

goes_on : (f : Fields) (a : Answer) (p : Progress) → p.wrong ≡ 0 → is_call f ≡ true → right f a p.left ≡ true → p.seen < greatest →
    seen_one f a p ≡ record { seen = suc p.seen; wrong = 0; left = (step base (call_in f) p.left).after }
goes_on f a p e h r l =
    made f a p e h ∙ (λ i. record { seen = one_more-suc p.seen l i; wrong = cond (r i) 0 (one_more p.seen); left = (step base (call_in f) p.left).after })

is_wrong : (f : Fields) (a : Answer) (p : Progress) → p.wrong ≡ 0 → right f a p.left ≡ false → p.seen < greatest →
    (seen_one f a p).wrong ≡ suc p.seen
is_wrong f a p e r l = go (is_call f) refl
  where
    go : (b : Bool) → is_call f ≡ b → (seen_one f a p).wrong ≡ suc p.seen
    go true h =
        ap (λ (q : Progress). q.wrong) (made f a p e h)
        ∙ ap (λ (b : Bool). cond b 0 (one_more p.seen)) r
        ∙ one_more-suc p.seen l
    go false h = ap (λ (q : Progress). q.wrong) (no_call_lem f a p e h) ∙ one_more-suc p.seen l

-- ---- all of them

pub lockstep : (n : ℕ) (cs rs : List ℕ) (p : Progress) → p.seen + n ≤ greatest → p.wrong ≡ 0 →
    (seen_all n cs rs p).wrong ≡ wrong_from p.seen p.left (calls_in n cs) (answers_in n rs)
unfolding seen_all wrong_from calls_in answers_in
lockstep zero cs rs p l e = e
lockstep (suc n) cs rs p l e = go (lockstep n (drop record_size cs) (drop record_size rs)) (right f a p.left) refl
  where
    f : Fields
    f = call_at 0 cs

    a : Answer
    a = answer_at 0 rs

    cs' : List ℕ
    cs' = drop record_size cs

    rs' : List ℕ
    rs' = drop record_size rs

    on : ℕ
    on = wrong_from (suc p.seen) (step base (call_in f) p.left).after (calls_in n cs') (answers_in n rs')

    go :
        ((q : Progress) → q.seen + n ≤ greatest → q.wrong ≡ 0 → (seen_all n cs' rs' q).wrong ≡ wrong_from q.seen q.left (calls_in n cs') (answers_in n rs')) →
        (b : Bool) → right f a p.left ≡ b → (seen_all n cs' rs' (seen_one f a p)).wrong ≡ cond (right f a p.left) on (suc p.seen)
    go all true r =
        ap (λ (q : Progress). (seen_all n cs' rs' q).wrong) (goes_on f a p e (is_call_lem (is_call f) refl) r (omega arith))
        ∙ all (record { seen = suc p.seen; wrong = 0; left = (step base (call_in f) p.left).after }) (omega arith) refl
        ∙ ap (λ (b : Bool). cond b on (suc p.seen)) (sym r)
      where
        is_call_lem : (b : Bool) → is_call f ≡ b → is_call f ≡ true
        is_call_lem true h = h
        is_call_lem false h = absurd (false≢true (sym (no_call-wrong f a p.left h) ∙ r))
    go all false r =
        let w : (seen_one f a p).wrong ≡ suc p.seen = is_wrong f a p e r (omega arith) in
        stays n cs' rs' (seen_one f a p) (λ z. omega arith) ∙ w ∙ ap (λ (b : Bool). cond b on (suc p.seen)) (sym r)

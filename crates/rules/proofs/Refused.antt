-- What a refusal leaves: the tables as they were, but for a noted wait's words, and zeros beside the code.
use Prim.Native.Nat.{ℕ, ◌<◌}
use mathlib.Core.Path.{◌≡◌, refl, sym, ap, ◌∙◌, subst}
use mathlib.Core.Bool.{Bool, true, false, cond}
use mathlib.Core.List.{List}
use mathlib.Core.Logic.{◌≢◌, ◌⊎◌, inl, inr}
use lib.Bits.{bit_or}
use lib.Dec.{T}
use native.Mathlib.Omega.{arith}
use Rattle.names.specs.declared.Sizes.{Sizes}
use Rattle.names.specs.Layout.{txn_rank_at}
use Rattle.rules.specs.Tables.{Tables, Txn, txn, reranked, live_update, by_start}
use Rattle.rules.specs.Waits.{awaits_on, rank_for, raised, noted}
use Rattle.rules.specs.Good.{Good}
use Rattle.rules.specs.Tested.{good}
use Rattle.rules.specs.Answers.{Call, granted, code, Refusal, Outcome, refuses, Wait, BadTables, Deed}
use Rattle.rules.specs.Step.{step, act, judged, done, with_txns, joined, asking_joins, version_read, awaits_other}
use Rattle.rules.specs.Conditions.{CallerIn, Wants}
use Rattle.rules.specs.Changed.{AwaitedChanged}
use Rattle.rules.specs.Promises.{coming, Noted, RefusedUnchanged, RefusedZeros, WaitWords}
use Rattle.rules.proofs.Tests.{true_is, false_is}
use Rattle.rules.proofs.Equal.{good→Good}
use Rattle.rules.proofs.Steps.{cond_case}
use Rattle.rules.proofs.Changes.{awaited-changes, joined-after}
use Rattle.rules.proofs.EqualRanks.{awaits_on→}
use Rattle.rules.proofs.Views.{length-reworded, word-reworded, txn-reworded}
use Rattle.rules.proofs.Noting.{rank-known, noted-known, noted_new}
use Rattle.rules.proofs.Waited.{only_this}
use Rattle.rules.proofs.Judged.{way}
use Rattle.rules.proofs.Ways.{refusal-code, Way, refused, waited, began_update, began_query, began_relaxed, read_own, read_newest, read_shared, read_settled, read_version}
use Rattle.rules.proofs.Ways.{wrote_own, wrote_settled, wrote_taken, committed_update, committed_empty, committed_settled, committed_query, aborted_update, aborted_settled, aborted_query, settled_update, kept_waiting}

-- the ways in which a call can end
data Ends (S : Sizes) (c : Call) (G : Tables) : Outcome → Type 0 where
  grant : (o : Outcome) → o.answer.code ≡ granted → Ends S c G o
  refusal : (r : Refusal) → code r ≢ granted → code r ≢ code Wait → Ends S c G (refuses r G)
  held : (s : ℕ) → CallerIn c S G s → T (by_start (txn G.txns s)) → Ends S c G (refuses Wait G)
  waiting :
      (s k x : ℕ) → CallerIn c S G s → Wants c k x → awaits_other G.txns s k x ≡ false → T (live_update (txn G.txns s))
      → Ends S c G (refuses Wait (with_txns G (joined (noted S G.txns G.locks s k x) s (asking_joins S G.txns k x))))

way-ends : (S : Sizes) (c : Call) (G : Tables) (d : Deed) → Way S G c d → Ends S c G (done S d G)
unfolding done version_read
way-ends S c G d (refused r m) = refusal r (refusal-code r) m.1
way-ends S c G d (waited s k x w) = waiting s k x w.caller w.wants w.free w.update
way-ends S c G d (kept_waiting s C q) = held s C q
way-ends S c G d (began_update s f l) = grant _ refl
way-ends S c G d (began_query s f l) = grant _ refl
way-ends S c G d (began_relaxed s f l a) = grant _ refl
way-ends S c G d (read_own n s x U h) = grant _ refl
way-ends S c G d (read_newest n s x U h) = grant _ refl
way-ends S c G d (read_shared n s x U h f) = grant _ refl
way-ends S c G d (read_settled n s x C p i h) = grant _ refl
way-ends S c G d (read_version n s x C q i o b) = grant _ refl
way-ends S c G d (wrote_own n s x v U h) = grant _ refl
way-ends S c G d (wrote_settled n s x v C p i h) = grant _ refl
way-ends S c G d (wrote_taken n s x v U h f r) = grant _ refl
way-ends S c G d (committed_update n s C u i l w) = grant _ refl
way-ends S c G d (committed_empty n s C u i e) = grant _ refl
way-ends S c G d (committed_settled n s C p) = grant _ refl
way-ends S c G d (committed_query n s C q) = grant _ refl
way-ends S c G d (aborted_update n s C u) = grant _ refl
way-ends S c G d (aborted_settled n s C p) = grant _ refl
way-ends S c G d (aborted_query n s C q) = grant _ refl
way-ends S c G d (settled_update n s C u i l a) = grant _ refl

step-ends : (S : Sizes) (c : Call) (G : Tables) → Ends S c G (step S c G)
unfolding step act
step-ends S c G =
    cond_case (Ends S c G) (good S G) _ _ (λ e. way-ends S c G (judged S c G) (way S G (good→Good S G (true_is e)) c))
    (λ e. refusal BadTables (λ z. omega arith) (λ z. omega arith))

-- ---- what comes of it
-- "unchanged", in every row of the table but the first two
pub refused-unchanged : (S : Sizes) → RefusedUnchanged S
refused-unchanged S c G d w = go (step S c G) (step-ends S c G) d w
  where
    go : (o : Outcome) → Ends S c G o → o.answer.code ≢ granted → o.answer.code ≢ code Wait → o.after ≡ G
    go o (grant p e) d w = absurd (d e)
    go o (refusal r m n) d w = refl
    go o (held s C q) d w = refl
    go o (waiting s k x C a f u) d w = absurd (w refl)

-- "What is not named is 0."
pub refused-zeros : (S : Sizes) → RefusedZeros S
refused-zeros S c G d = go (step S c G) (step-ends S c G) d
  where
    go : (o : Outcome) → Ends S c G o → o.answer.code ≢ granted → o.answer ≡ record { code = o.answer.code; value = 0; number = 0; looked = 0 }
    go o (grant p e) d = absurd (d e)
    go o (refusal r m n) d = refl
    go o (held s C q) d = refl
    go o (waiting s k x C a f u) d = refl

-- "only the caller's awaited fields", noted down, and the sets that it joins
abbrev pub NotedDown : Sizes → Call → Tables → Outcome → Type 0
NotedDown S c G o =
    (s : ℕ) × (k : ℕ) × (x : ℕ) × CallerIn c S G s × Wants c k x × (awaits_other G.txns s k x ≡ false)
    × (o.after ≡ with_txns G (joined (noted S G.txns G.locks s k x) s (asking_joins S G.txns k x))) × T (live_update (txn G.txns s))

-- a reader held back, and nothing noted
abbrev pub HeldSilently : Sizes → Call → Tables → Outcome → Type 0
HeldSilently S c G o = ((s : ℕ) × CallerIn c S G s × T (by_start (txn G.txns s))) × (o.after ≡ G)

pub wait_is : (S : Sizes) (c : Call) (G : Tables) → (step S c G).answer.code ≡ code Wait → NotedDown S c G (step S c G) ⊎ HeldSilently S c G (step S c G)
wait_is S c G e = go (step S c G) (step-ends S c G) e
  where
    go : (o : Outcome) → Ends S c G o → o.answer.code ≡ code Wait → NotedDown S c G o ⊎ HeldSilently S c G o
    go o (grant p q) e = absurd (omega arith)
    go o (refusal r m n) e = absurd (n e)
    go o (held s C q) e = inr ((s, C, q), refl)
    go o (waiting s k x C a f u) e = inl (s, k, x, C, a, f, refl, u)

-- what is answered another code than 10 comes on good tables, so a wait does
pub answered_good : (S : Sizes) (c : Call) (G : Tables) → (step S c G).answer.code ≢ code BadTables → Good S G
unfolding step
answered_good S c G =
    cond_case (λ o. o.answer.code ≢ code BadTables → Good S G) (good S G) (act S c G) (refuses BadTables G)
    (λ e d. good→Good S G (true_is e)) (λ e d. absurd (d refl))

pub wait_good : (S : Sizes) (c : Call) (G : Tables) → (step S c G).answer.code ≡ code Wait → Good S G
wait_good S c G e = answered_good S c G (λ z. omega arith)

-- the words of a noted wait
noted-changes :
    (S : Sizes) (G : Tables) → Good S G → (s k x : ℕ) → s < S.slots → awaits_other G.txns s k x ≡ false
    → AwaitedChanged S s k x (rank_for S G.txns G.locks s x) (txn G.txns s).later_for (coming S G s x) G.txns (noted S G.txns G.locks s k x)
noted-changes S G g s k x i f = go (awaits_on x (txn t s)) refl
  where
    t : List ℕ
    t = G.txns

    p : ℕ
    p = rank_for S t G.locks s x

    go : (b : Bool) → awaits_on x (txn t s) ≡ b → AwaitedChanged S s k x p (txn t s).later_for (coming S G s x) t (noted S t G.locks s k x)
    go true e =
        let w = only_this t s k x f (awaits_on→ x (txn t s) (true_is e)).0 in
        subst (λ (u : List ℕ). AwaitedChanged S s k x p (txn t s).later_for (coming S G s x) t u) (sym (noted-known S t G.locks s k x (true_is e)))
        (record {
          size = refl;
          awaited_lock = unfold txn in w.0;
          awaited_item = unfold txn in (awaits_on→ x (txn t s) (true_is e)).1;
          rank = unfold txn rank_for in (sym (rank-known S t G.locks s x (true_is e)));
          ranks = λ r j d. unfold txn in (sym (ap (λ (b : Bool). cond b (txn t r).rank (raised x p (txn t r))) e));
          later_for = unfold txn in refl;
          others = λ j a b c o. refl;
        })
    go false e =
        subst (λ (u : List ℕ). AwaitedChanged S s k x p (txn t s).later_for (coming S G s x) t u) (sym (noted_new S t G.locks s k x (false_is e)))
        (awaited-changes S t g.txns_exact s i (reranked S.slots (raised x p) t) (coming S G s x) (length-reworded txn_rank_at (omega arith) S.slots (raised x p) t)
        (λ r j. ap (λ (w : Txn). w.rank) (txn-reworded txn_rank_at (omega arith) S t g.txns_exact S.slots (omega arith) (raised x p) r j) ∙ sym (ap (λ (b : Bool). cond b (txn t r).rank (raised x p (txn t r))) e))
        (word-reworded txn_rank_at (omega arith) S.slots (raised x p) t) k x p)

pub wait_words : (S : Sizes) → WaitWords S
wait_words S c G e = go (wait_is S c G e)
  where
    g : Good S G
    g = wait_good S c G e

    go : NotedDown S c G (step S c G) ⊎ HeldSilently S c G (step S c G) → Noted S c G ⊎ (((s : ℕ) × CallerIn c S G s × T (by_start (txn G.txns s))) × ((step S c G).after ≡ G))
    go (inr h) = inr h
    go (inl w) =
        inl
        (record {
          slot = w.0;
          lock_kind = w.1;
          item = w.2;
          caller = w.3;
          update = w.7;
          wants = w.4;
          txns =
              subst
              (λ (H : Tables). AwaitedChanged S w.0 w.1 w.2 (rank_for S G.txns G.locks w.0 w.2)
              (bit_or (txn G.txns w.0).later_for (asking_joins S G.txns w.1 w.2)) (coming S G w.0 w.2) G.txns H.txns) (sym w.6)
              (joined-after S w.0 w.1 w.2 _ _ (asking_joins S G.txns w.1 w.2) (coming S G w.0 w.2) G.txns _ g.txns_exact w.3.inside
              (noted-changes S G g w.0 w.1 w.2 w.3.inside w.5));
          locks = ap (λ (H : Tables). H.locks) w.6;
          versions = ap (λ (H : Tables). H.versions) w.6;
        })

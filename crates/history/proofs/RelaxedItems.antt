-- Request E11: what a call leaves of the items that a relaxed query has read, while it lives.
use Prim.Native.Nat.{ℕ, suc, ◌≤◌, ◌<◌}
use mathlib.Core.Path.{◌≡◌, refl, sym, ap, ◌∙◌, subst}
use mathlib.Core.Logic.{◌≢◌, ◌⊎◌, inl, inr}
use mathlib.Core.Bool.{Bool, true, false, cond}
use mathlib.Core.List.{List}
use native.Mathlib.Omega.{arith}
use lib.ListN.{length}
use lib.Dec.{T, eqb}
use borrow.Author.Tests.{eqb-true}
use Rattle.names.specs.declared.Sizes.{Sizes}
use Rattle.names.specs.declared.Answer.{Answer}
use Rattle.rules.specs.Words.{bit, with_bit}
use Rattle.rules.specs.Tables.{Tables, txn_words, Txn, txn, live_update, live_settled, live_relaxed, an_update, a_settled, lock}
use Rattle.rules.specs.Good.{Good}
use Rattle.rules.specs.Answers.{Call, BeginUpdate, BeginQuery, BeginRelaxed, Read, Write, Commit, Abort, Settle, Outcome, granted, refuses, Deed, Wait}
use Rattle.rules.specs.Step.{judged, done, act, step, version_read, read_noted, holder_joins, counted, ended}
use Rattle.rules.specs.Conditions.{Caller, Names}
use Rattle.rules.specs.Changed.{looked_at}
use Rattle.rules.proofs.Tests.{true_is, false_is, same?}
use Rattle.rules.proofs.Bits.{with_bit_here, with_bit_there}
use Rattle.rules.proofs.Views.{txn-set_txn}
use Rattle.rules.proofs.RowKinds.{live-number, update-live, settled-live, relaxed-live}
use Rattle.rules.proofs.Callers.{caller-found}
use Rattle.rules.proofs.Counting.{counted_same}
use Rattle.rules.proofs.ReadNoted.{with_items, items-row, held-length, noted-relaxed, read_length, holder_inside}
use Rattle.rules.proofs.Steps.{acts}
use Rattle.rules.proofs.Waiting.{named?, one_caller, others_leave}
use Rattle.rules.proofs.Judged.{way}
use Rattle.rules.proofs.Ways.{refusal-code, Way, refused, waited, kept_waiting, began_update, began_query, began_relaxed, read_own, read_newest, read_shared, read_settled, read_version}
use Rattle.rules.proofs.Ways.{wrote_own, wrote_settled, wrote_taken, committed_update, committed_empty, committed_settled, committed_query, aborted_update, aborted_settled, aborted_query, settled_update}
use Rattle.history.specs.Happened.{got, put, Happening, update_began, query_began, relaxed_began, accessed, update_committed, empty_committed, settled_under, only_ended, nothing, did, told}
use Rattle.history.specs.Relaxed.{began_relaxed as begun_relaxed}
use Rattle.history.proofs.Leaving.{ended_here}

module _ (S : Sizes) (enough : S.slots ≤ S.places) (G : Tables) (g : Good S G) (n s : ℕ) (C : Caller S G n s) (relaxed : T (live_relaxed (txn G.txns s))) where
  abbrev t : List ℕ
  t = G.txns

  -- what it has read stays, and the item that it reads now comes to it
  pub record Items (c : Call) (o : Outcome) : Type 0 where
    pub kept : (x : ℕ) → T (bit (txn G.txns s).items_read x) → T (bit (txn o.after.txns s).items_read x)
    pub read : (x : ℕ) → c ≡ Read n x → o.answer.code ≡ granted → T (bit (txn o.after.txns s).items_read x)

  -- ---- its own calls
  -- whoever bears its number is it
  it : (m r : ℕ) → m ≡ n → Caller S G m r → r ≡ s
  it m r e D =
      sym (caller-found S G g r m D.inside D.alive D.name) ∙ caller-found S G g s m C.inside C.alive (C.name ∙ sym e)

  no_update : (m r : ℕ) → m ≡ n → Caller S G m r → T (live_update (txn t r)) → ⊥
  no_update m r e D u =
      let k = subst (λ (j : ℕ). (txn t j).kind ≡ an_update) (it m r e D) (update-live (txn t r) u).1 in
      let q = (relaxed-live (txn t s) relaxed).1 in
      omega arith

  no_settled : (m r : ℕ) → m ≡ n → Caller S G m r → T (live_settled (txn t r)) → ⊥
  no_settled m r e D u =
      let k = subst (λ (j : ℕ). (txn t j).kind ≡ a_settled) (it m r e D) (settled-live (txn t r) u).1 in
      let q = (relaxed-live (txn t s) relaxed).1 in
      omega arith

  -- a read
  read_on : (x : ℕ) → x < S.items → (m : ℕ) → m ≡ n → Items (Read m x) (version_read S s x G)
  unfolding version_read
  read_on x known m e =
      record {
        kept = λ y h. subst (λ (w : ℕ). T (bit w y)) (sym here) (on y h (same? y x));
        read = λ y f z. subst (λ (w : ℕ). T (bit w y)) (sym here) (subst (λ (j : ℕ). T (bit (with_bit (txn t s).items_read x) j)) (same_item y f) (true_is (with_bit_here (txn t s).items_read x)));
      }
    where
      l : List ℕ
      l = G.locks

      u : List ℕ
      u = read_noted t G.locks s x

      holders : (b : ℕ) → (lock G.locks x).exclusive ≡ suc b → b < S.slots
      holders = holder_inside S G g s C.inside x known

      usize : length (read_noted t G.locks s x) ≡ txn_words S
      usize = read_length S t l s x g.txns_exact C.inside holders ∙ g.txns_exact

      noted : (txn (read_noted t G.locks s x) s).items_read ≡ with_bit (txn t s).items_read x
      noted =
          let j = holder_joins (lock l x).exclusive s t in
          let w = with_bit (txn t s).items_read x in
          ap (λ (v : List ℕ). (txn v s).items_read) (noted-relaxed t l s x (relaxed-live (txn t s) relaxed).1 ∙ items-row j s w)
          ∙ ap (λ (r : Txn). r.items_read) (txn-set_txn j s (with_items (txn j s) w) S (held-length s t (lock l x).exclusive ∙ g.txns_exact) C.inside)

      here : (txn (counted (read_noted t G.locks s x) s (looked_at S G s x)) s).items_read ≡ with_bit (txn t s).items_read x
      here = counted_same u s (looked_at S G s x) S usize C.inside (λ (r : Txn). r.items_read) (λ r n w. refl) s ∙ noted

      on : (y : ℕ) → T (bit (txn t s).items_read y) → (y ≡ x) ⊎ (y ≢ x) → T (bit (with_bit (txn t s).items_read x) y)
      on y h (inl z) = subst (λ (j : ℕ). T (bit (with_bit (txn t s).items_read x) j)) (sym z) (true_is (with_bit_here (txn t s).items_read x))
      on y h (inr d) = subst T (sym (with_bit_there (txn t s).items_read x y d)) h

      same_item : (y : ℕ) → Read m x ≡ Read n y → x ≡ y
      same_item y f = ap asked f
        where
          asked : Call → ℕ
          asked BeginUpdate = 0
          asked BeginQuery = 0
          asked BeginRelaxed = 0
          asked (Read i z) = z
          asked (Write i z v) = z
          asked (Commit i) = 0
          asked (Abort i) = 0
          asked (Settle i) = 0

  still : (c : Call) (o : Outcome) → o.after ≡ G → o.answer.code ≢ granted → Items c o
  still c o e d =
      record {
        kept = λ x h. subst (λ (H : Tables). T (bit (txn H.txns s).items_read x)) (sym e) h;
        read = λ x f z. absurd (d z);
      }

  -- its end
  gone : {c : Call} (m r : ℕ) → m ≡ n → Caller S G m r → (o : Outcome) → o.after ≡ ended S r G → T (live_relaxed (txn o.after.txns s)) → Items c o
  gone m r e D o f h =
      let z : o.after ≡ ended S s G = f ∙ ap (λ (j : ℕ). ended S j G) (it m r e D) in
      absurd
      (live-number (txn o.after.txns s) (relaxed-live (txn o.after.txns s) h).0
      (ap (λ (H : Tables). (txn H.txns s).number) z ∙ ap (λ (w : Txn). w.number) (ended_here S enough G g s C.inside)))

  own : (c : Call) (d : Deed) → Way S G c d → Names c n → T (live_relaxed (txn (done S d G).after.txns s)) → Items c (done S d G)
  unfolding done
  own c d (refused r m) e h = still c (refuses r G) refl (refusal-code r)
  own c d (waited r k x w) e h =
      absurd
      (let z = one_caller S G g c r s w.caller (record { inside = C.inside; alive = C.alive; named = subst (Names c) (sym C.name) e }) in
      no_update n r refl (record { inside = w.caller.inside; alive = w.caller.alive; name = ap (λ (j : ℕ). (txn t j).number) z ∙ C.name }) w.update)
  own c d (kept_waiting r D q) e h = still c (refuses Wait G) refl (refusal-code Wait)
  own c d (began_update r f l) e h = absurd e
  own c d (began_query r f l) e h = absurd e
  own c d (began_relaxed r f l a) e h = absurd e
  own c d (read_own m r x U k) e h = absurd (no_update m r e U.caller U.update)
  own c d (read_newest m r x U k) e h = absurd (no_update m r e U.caller U.update)
  own c d (read_shared m r x U k f) e h = absurd (no_update m r e U.caller U.update)
  own c d (read_settled m r x D p i k) e h = absurd (no_settled m r e D p)
  own c d (read_version m r x D q i o b) e h =
      subst (λ (j : ℕ). Items (Read m x) (version_read S j x G)) (sym (it m r e D)) (read_on x i m e)
  own c d (wrote_own m r x v U k) e h = absurd (no_update m r e U.caller U.update)
  own c d (wrote_settled m r x v D p i k) e h = absurd (no_settled m r e D p)
  own c d (wrote_taken m r x v U k f q) e h = absurd (no_update m r e U.caller U.update)
  own c d (committed_update m r D u i l w) e h = absurd (no_update m r e D u)
  own c d (committed_empty m r D u i w) e h = absurd (no_update m r e D u)
  own c d (committed_settled m r D p) e h = absurd (no_settled m r e D p)
  own c d (committed_query m r D q) e h = gone m r e D _ refl h
  own c d (aborted_update m r D u) e h = absurd (no_update m r e D u)
  own c d (aborted_settled m r D p) e h = absurd (no_settled m r e D p)
  own c d (aborted_query m r D q) e h = gone m r e D _ refl h
  own c d (settled_update m r D u i l a) e h = absurd (no_update m r e D u)

  -- ---- every call
  read_names : (c : Call) (x : ℕ) → c ≡ Read n x → Names c n
  read_names c x e = subst (λ (d : Call). Names d n) (sym e) refl

  pub items-step : (c : Call) → T (live_relaxed (txn (step S c G).after.txns s)) → Items c (step S c G)
  unfolding act
  items-step c h = go (named? c n)
    where
      go : Names c n ⊎ (Names c n → ⊥) → Items c (step S c G)
      go (inl e) =
          subst (λ (o : Outcome). T (live_relaxed (txn o.after.txns s)) → Items c o) (sym (acts S c G g)) (own c (judged S c G) (way S G g c) e) h
      go (inr d) =
          let r = others_leave S c G s g C.inside C.alive (λ z. d (subst (Names c) C.name z)) in
          record {
            kept = λ x b. subst (λ (w : ℕ). T (bit w x)) (sym (ap (λ (w : Txn). w.items_read) r)) b;
            read = λ x f z. absurd (d (read_names c x f));
          }

-- ---- a read that happened was called
reading : Happening → Bool
reading (accessed n (got x v)) = true
reading (accessed n (put x v)) = false
reading (update_began n) = false
reading (query_began n) = false
reading (relaxed_began n) = false
reading (update_committed n c) = false
reading (empty_committed n c) = false
reading (settled_under n c) = false
reading (only_ended n) = false
reading nothing = false

reader : Happening → ℕ
reader (accessed n a) = n
reader (update_began n) = 0
reader (query_began n) = 0
reader (relaxed_began n) = 0
reader (update_committed n c) = 0
reader (empty_committed n c) = 0
reader (settled_under n c) = 0
reader (only_ended n) = 0
reader nothing = 0

item : Happening → ℕ
item (accessed n (got x v)) = x
item (accessed n (put x v)) = x
item (update_began n) = 0
item (query_began n) = 0
item (relaxed_began n) = 0
item (update_committed n c) = 0
item (empty_committed n c) = 0
item (settled_under n c) = 0
item (only_ended n) = 0
item nothing = 0

module _ (n x v : ℕ) where
  abbrev R : Happening
  R = accessed n (got x v)

  no_read : {h : Happening} {A : Type 0} → reading h ≡ false → h ≡ accessed n (got x v) → A
  unfolding reading
  no_read e f = absurd (false_is (sym (ap reading f) ∙ e) tt)

  did_read : (u w : Bool) (c : Call) (r : Answer) → did u w c r ≡ accessed n (got x v) → c ≡ Read n x
  unfolding did reading reader item
  did_read u w BeginUpdate r e = no_read refl e
  did_read u w BeginQuery r e = no_read refl e
  did_read u w BeginRelaxed r e = no_read refl e
  did_read u w (Read m y) r e = ap (λ (j : ℕ). Read j y) (ap reader e) ∙ ap (λ (j : ℕ). Read n j) (ap item e)
  did_read u w (Write m y k) r e = no_read refl e
  did_read true true (Commit m) r e = no_read refl e
  did_read true false (Commit m) r e = no_read refl e
  did_read false w (Commit m) r e = no_read refl e
  did_read u w (Abort m) r e = no_read refl e
  did_read u w (Settle m) r e = no_read refl e

  pub told-read : (u w : Bool) (c : Call) (r : Answer) → told u w c r ≡ accessed n (got x v) → (c ≡ Read n x) × (r.code ≡ granted)
  unfolding told reading
  told-read u w c r e = go (eqb r.code granted) refl e
    where
      go : (b : Bool) → eqb r.code granted ≡ b → cond b (did u w c r) nothing ≡ accessed n (got x v) → (c ≡ Read n x) × (r.code ≡ granted)
      go true z f = (did_read u w c r f, eqb-true r.code granted z)
      go false z f = no_read refl f

-- ---- and so was a relaxed begin
beginning : Happening → Bool
beginning (relaxed_began n) = true
beginning (accessed n a) = false
beginning (update_began n) = false
beginning (query_began n) = false
beginning (update_committed n c) = false
beginning (empty_committed n c) = false
beginning (settled_under n c) = false
beginning (only_ended n) = false
beginning nothing = false

did_begin : (u w : Bool) (c : Call) (r : Answer) → T (beginning (did u w c r)) → c ≡ BeginRelaxed
unfolding did beginning
did_begin u w BeginUpdate r e = absurd e
did_begin u w BeginQuery r e = absurd e
did_begin u w BeginRelaxed r e = refl
did_begin u w (Read m y) r e = absurd e
did_begin u w (Write m y k) r e = absurd e
did_begin true true (Commit m) r e = absurd e
did_begin true false (Commit m) r e = absurd e
did_begin false w (Commit m) r e = absurd e
did_begin u w (Abort m) r e = absurd e
did_begin u w (Settle m) r e = absurd e

begins-relaxed : (q : ℕ) (h : Happening) → T (begun_relaxed q h) → T (beginning h)
unfolding begun_relaxed beginning
begins-relaxed q (relaxed_began n) e = tt
begins-relaxed q (accessed n a) e = absurd e
begins-relaxed q (update_began n) e = absurd e
begins-relaxed q (query_began n) e = absurd e
begins-relaxed q (update_committed n c) e = absurd e
begins-relaxed q (empty_committed n c) e = absurd e
begins-relaxed q (settled_under n c) e = absurd e
begins-relaxed q (only_ended n) e = absurd e
begins-relaxed q nothing e = absurd e

pub told_begin : (u w : Bool) (c : Call) (r : Answer) (q : ℕ) → T (begun_relaxed q (told u w c r)) → c ≡ BeginRelaxed
unfolding told beginning
told_begin u w c r q e = go (eqb r.code granted) (begins-relaxed q (told u w c r) e)
  where
    go : (b : Bool) → T (beginning (cond b (did u w c r) nothing)) → c ≡ BeginRelaxed
    go true f = did_begin u w c r f
    go false f = absurd f

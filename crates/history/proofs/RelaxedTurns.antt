-- Request E11: what the theorem on relaxed queries asks of a turn: who commits, who is unknown then, and what becomes of the query.
use Prim.Native.Nat.{ℕ, ◌+◌, ◌≤◌, ◌<◌}
use mathlib.Core.Path.{◌≡◌, refl, sym, ap, ◌∙◌, subst}
use mathlib.Core.Logic.{◌≢◌, ◌⊎◌, inl, inr}
use mathlib.Core.Bool.{Bool, false, ◌&&◌, cond}
use mathlib.Core.List.{[], ◌∷◌}
use native.Mathlib.Omega.{arith}
use lib.Dec.{T, eqb, eqb→eq}
use borrow.Author.Tests.{ne_eqb}
use Rattle.rules.specs.Words.{some}
use Rattle.rules.specs.Tables.{an_update, a_query, a_settled, a_relaxed}
use Rattle.rules.specs.Answers.{Call}
use Rattle.rules.proofs.Tests.{and_left, and_right, eq_make, or_cases, or_left, same?}
use Rattle.history.specs.Happened.{Access, got, put, Happening, relaxed_began, update_committed, empty_committed, accessed, only_ended}
use Rattle.history.specs.Serial.{access_of, place_of}
use Rattle.history.specs.Relaxed.{committer, commits_under, began_relaxed, ends_it}
use Rattle.history.proofs.Invariant.{View, Fair, Row, update, relaxed}
use Rattle.history.proofs.Turns.{New, Gets, by_lock, by_own, by_start, by_set, Left, Settles, Turn, quiet, update_begins, query_begins, relaxed_begins, reads, writes}
use Rattle.history.proofs.Turns.{commits, commits_empty, settles, commits_settled, ends}
use Rattle.history.proofs.Standing.{Unknown, left-unknown}

-- the only member of a list
pub only_one : (u n : ℕ) → T (some (eqb u) (n ∷ [])) → u ≡ n
unfolding some
only_one u n h = go (or_cases (eqb u n) _ h)
  where
    go : T (eqb u n) ⊎ T false → u ≡ n
    go (inl e) = eqb→eq u n e
    go (inr e) = absurd e

pub one_in : (n : ℕ) → T (some (eqb n) (n ∷ []))
unfolding some
one_in n = or_left (eqb n n) _ (eq_make n n refl)

module _ (items : ℕ) (W W' : View) (F : Fair items W) where
  -- ---- who commits, and what that makes of the newest values
  pub data Effect : Happening → Type 0 where
    none : {h : Happening} → committer h ≡ [] → ((x : ℕ) → x < items → W'.current x ≡ W.current x) → Effect h
    one :
        (n b d : ℕ) → W.number b ≡ n → W.alive b → W.kind b ≢ a_query
        → ((x : ℕ) → x < items → W'.current x ≡ cond (W.writes b x) (W.working x) (W.current x)) → Effect (update_committed n d)
    empty :
        (n b d : ℕ) → W.number b ≡ n → W.alive b → W.kind b ≢ a_query → ((x : ℕ) → x < items → W.writes b x ≡ false)
        → ((x : ℕ) → x < items → W'.current x ≡ W.current x) → Effect (empty_committed n d)

  pub effect : {c : Call} {h : Happening} → Turn items W W' c h → Effect h
  unfolding committer
  effect (quiet A) = none refl A.current
  effect (update_begins s B k e) = none refl B.current
  effect (query_begins s B q z e) = none refl B.current
  effect (relaxed_begins s B q e) = none refl B.current
  effect (reads n s x v m b A g) = none refl A.current
  effect (writes n s x v m b P) = none refl P.current
  effect (commits n s m a u L o e k) = one n s _ m L.alive (λ z. omega arith) e
  effect (commits_empty n s m a u w L o e k) = empty n s _ m L.alive (λ z. omega arith) w e
  effect (settles n s m B) = none refl B.current
  effect (commits_settled n s m a u L o e k) = one n s _ m L.alive (λ z. omega arith) e
  effect (ends n s m a L o e k) = none refl e

  -- ---- the last number and the clock only grow
  pub grows : {c : Call} {h : Happening} → Turn items W W' c h → (W.last ≤ W'.last) × (W.clock ≤ W'.clock)
  grows (quiet A) = let a = A.last in let b = A.clock in (omega arith, omega arith)
  grows (update_begins s B k e) = let a = B.last in let b = B.clock in (omega arith, omega arith)
  grows (query_begins s B q z e) = let a = B.last in let b = B.clock in (omega arith, omega arith)
  grows (relaxed_begins s B q e) = let a = B.last in let b = B.clock in (omega arith, omega arith)
  grows (reads n s x v m b A g) = let a = A.last in let b = A.clock in (omega arith, omega arith)
  grows (writes n s x v m b P) = let a = P.last in let b = P.clock in (omega arith, omega arith)
  grows (commits n s m a u L o e k) = let b = L.last in (omega arith, omega arith)
  grows (commits_empty n s m a u w L o e k) = let b = L.last in (omega arith, omega arith)
  grows (settles n s m B) = let a = B.last in let b = B.clock in (omega arith, omega arith)
  grows (commits_settled n s m a u L o e k) = let b = L.last in (omega arith, omega arith)
  grows (ends n s m a L o e k) = let b = L.last in (omega arith, omega arith)

  -- ---- who committed is unknown
  committed_so : (u n s : ℕ) → W.number s ≡ n → Left items W W' s → T (some (eqb u) (n ∷ [])) → Unknown u W'
  committed_so u n s m L h = subst (λ (j : ℕ). Unknown j W') (sym (only_one u n h)) (left-unknown items W W' n F s m L)

  pub committed-unknown : {c : Call} {h : Happening} (u : ℕ) → Turn items W W' c h → T (some (eqb u) (committer h)) → Unknown u W'
  unfolding committer
  committed-unknown u (commits n s m a k L o e i) h = committed_so u n s m L h
  committed-unknown u (commits_empty n s m a k w L o e i) h = committed_so u n s m L h
  committed-unknown u (commits_settled n s m a k L o e i) h = committed_so u n s m L h
  committed-unknown u (quiet A) h = absurd (unfold some in h)
  committed-unknown u (update_begins s B k e) h = absurd (unfold some in h)
  committed-unknown u (query_begins s B q z e) h = absurd (unfold some in h)
  committed-unknown u (relaxed_begins s B q e) h = absurd (unfold some in h)
  committed-unknown u (reads n s x v m b A g) h = absurd (unfold some in h)
  committed-unknown u (writes n s x v m b P) h = absurd (unfold some in h)
  committed-unknown u (settles n s m B) h = absurd (unfold some in h)
  committed-unknown u (ends n s m a L o e k) h = absurd (unfold some in h)

  -- and under a stamp up to the clock
  under_so : (u d n e : ℕ) → e ≤ W'.clock → T (eqb n u && eqb e d) → (d ≤ W'.clock) × T (some (eqb u) (n ∷ []))
  under_so u d n e l h =
      let a = eqb→eq n u (and_left (eqb n u) _ h) in
      let b = eqb→eq e d (and_right (eqb n u) _ h) in
      (omega arith, subst (λ (j : ℕ). T (some (eqb u) (j ∷ []))) (sym a) (one_in u))

  pub under_low : {c : Call} {h : Happening} (u d : ℕ) → Turn items W W' c h → T (commits_under u d h) → (d ≤ W'.clock) × T (some (eqb u) (committer h))
  unfolding commits_under committer
  under_low u d (commits n s m a k L o e i) h = under_so u d n (W.clock + 1) (omega arith) h
  under_low u d (commits_settled n s m a k L o e i) h =
      under_so u d n (W.start s) (let l = F.low s (L.alive, λ z. omega arith, λ z. omega arith) in omega arith) h
  under_low u d (commits_empty n s m a k w L o e i) h = absurd h
  under_low u d (quiet A) h = absurd h
  under_low u d (update_begins s B k e) h = absurd h
  under_low u d (query_begins s B q z e) h = absurd h
  under_low u d (relaxed_begins s B q e) h = absurd h
  under_low u d (reads n s x v m b A g) h = absurd h
  under_low u d (writes n s x v m b P) h = absurd h
  under_low u d (settles n s m B) h = absurd h
  under_low u d (ends n s m a L o e k) h = absurd h

  -- ---- an update that writes did so before, or is new
  pub was-update :
      {c : Call} {h : Happening} (b : ℕ) → Turn items W W' c h → update W' b → ((W'.number b ≡ W.number b) × update W b) ⊎ (W'.number b ≡ W.last + 1)
  was-update b t u = go t
    where
      row : Row W W' b → ((W'.number b ≡ W.number b) × update W b) ⊎ (W'.number b ≡ W.last + 1)
      row R = inl (R.number_is, (R.was u.0, sym R.kind_is ∙ u.1))

      new : (s : ℕ) → New items W W' s → (b ≡ s) ⊎ (b ≢ s) → ((W'.number b ≡ W.number b) × update W b) ⊎ (W'.number b ≡ W.last + 1)
      new s B (inl e) = inr (ap W'.number e ∙ B.number)
      new s B (inr d) = row (B.rows b d)

      left : (s : ℕ) → Left items W W' s → (b ≡ s) ⊎ (b ≢ s) → ((W'.number b ≡ W.number b) × update W b) ⊎ (W'.number b ≡ W.last + 1)
      left s L (inl e) = absurd (L.gone (subst (λ (m : ℕ). W'.alive m) e u.0))
      left s L (inr d) = row (L.rows b d)

      settled : (s : ℕ) → Settles items W W' s → (b ≡ s) ⊎ (b ≢ s) → ((W'.number b ≡ W.number b) × update W b) ⊎ (W'.number b ≡ W.last + 1)
      settled s B (inl e) = absurd (let k = B.kind in let z : W'.kind b ≡ W'.kind s = ap W'.kind e in let j = u.1 in omega arith)
      settled s B (inr d) = row (B.rows b d)

      go : {c : Call} {h : Happening} → Turn items W W' c h → ((W'.number b ≡ W.number b) × update W b) ⊎ (W'.number b ≡ W.last + 1)
      go (quiet A) = row (A.rows b)
      go (update_begins s B k e) = new s B (same? b s)
      go (query_begins s B q z e) = new s B (same? b s)
      go (relaxed_begins s B q e) = new s B (same? b s)
      go (reads n s x v m i A g) = row (A.rows b)
      go (writes n s x v m i P) = row (P.rows b)
      go (commits n s m a k L o e i) = left s L (same? b s)
      go (commits_empty n s m a k w L o e i) = left s L (same? b s)
      go (settles n s m B) = settled s B (same? b s)
      go (commits_settled n s m a k L o e i) = left s L (same? b s)
      go (ends n s m a L o e k) = left s L (same? b s)

  -- ---- the relaxed query q, in slot s
  module _ (q s : ℕ) (R : relaxed W s) (name : W.number s ≡ q) where
    -- whoever has its number is it
    it : (r : ℕ) → W.alive r → W.number r ≡ q → r ≡ s
    it r a e = go (same? r s)
      where
        go : (r ≡ s) ⊎ (r ≢ s) → r ≡ s
        go (inl z) = z
        go (inr d) = absurd (F.apart r s a R.0 d (e ∙ sym name))

    -- it lives on, or ends
    pub lives :
        {c : Call} {h : Happening} → Turn items W W' c h → (Row W W' s × (ends_it q h ≡ false)) ⊎ ((h ≡ only_ended q) × Unknown q W')
    unfolding ends_it
    lives (quiet A) = inl (A.rows s, refl)
    lives (update_begins r B k e) = inl (B.rows s (λ z. B.free (subst (λ (m : ℕ). W.alive m) z R.0)), refl)
    lives (query_begins r B k z e) = inl (B.rows s (λ z. B.free (subst (λ (m : ℕ). W.alive m) z R.0)), refl)
    lives (relaxed_begins r B k e) = inl (B.rows s (λ z. B.free (subst (λ (m : ℕ). W.alive m) z R.0)), refl)
    lives (reads n r x v m b A g) = inl (A.rows s, refl)
    lives (writes n r x v m b P) = inl (P.rows s, refl)
    lives (commits n r m a u L o e k) = inl (L.rows s (λ z. let j : W.kind s ≡ W.kind r = ap W.kind z in let i = R.1 in omega arith), refl)
    lives (commits_empty n r m a u w L o e k) = inl (L.rows s (λ z. let j : W.kind s ≡ W.kind r = ap W.kind z in let i = R.1 in omega arith), refl)
    lives (settles n r m B) = inl (B.rows s (λ z. let j : W.kind s ≡ W.kind r = ap W.kind z in let i = R.1 in let k = B.update.1 in omega arith), refl)
    lives (commits_settled n r m a u L o e k) = inl (L.rows s (λ z. let j : W.kind s ≡ W.kind r = ap W.kind z in let i = R.1 in omega arith), refl)
    lives (ends n r m a L o e k) = go (same? s r)
      where
        go : (s ≡ r) ⊎ (s ≢ r) → (Row W W' s × (eqb n q ≡ false)) ⊎ ((only_ended n ≡ only_ended q) × Unknown q W')
        go (inl z) =
            let f : n ≡ q = sym m ∙ ap W.number (sym z) ∙ name in
            inr (ap only_ended f, subst (λ (j : ℕ). Unknown j W') f (left-unknown items W W' n F r m L))
        go (inr d) = inl (L.rows s d, ne_eqb n q (λ f. d (sym (it r L.alive (m ∙ f)))))

    -- what it does: nothing, or it reads what it is shown
    pub data Does : Happening → Type 0 where
      nought : {h : Happening} → access_of q h ≡ [] → Does h
      gets : (x v : ℕ) → x < items → v ≡ W.shown s x → Does (accessed q (got x v))

    same_kind : {k : ℕ} (r : ℕ) → W.alive r → W.number r ≡ q → W.kind r ≡ k → k ≢ a_relaxed → ⊥
    same_kind r a e z d = d (sym z ∙ ap W.kind (it r a e) ∙ R.1)

    other : (n : ℕ) (a : Access) → n ≢ q → Does (accessed n a)
    unfolding access_of
    other n a d = nought (ap (λ (b : Bool). cond b (a ∷ []) []) (ne_eqb n q d))

    shown_it : (r x v : ℕ) → W.number r ≡ q → Gets items W W' r x v → v ≡ W.shown s x
    shown_it r x v e (by_lock u h is) = absurd (same_kind r u.0 e u.1 (λ z. omega arith))
    shown_it r x v e (by_own u w is) = absurd (same_kind r u.0 e u.1 (λ z. omega arith))
    shown_it r x v e (by_start u f is) = absurd (u.2 (ap W.kind (it r u.0 e) ∙ R.1))
    shown_it r x v e (by_set u is) = is ∙ ap (λ (j : ℕ). W.shown j x) (it r u.0 e)

    pub does : {c : Call} {h : Happening} → Turn items W W' c h → Does h
    unfolding access_of
    does (quiet A) = nought refl
    does (update_begins r B k e) = nought refl
    does (query_begins r B k z e) = nought refl
    does (relaxed_begins r B k e) = nought refl
    does (reads n r x v m b A g) = go (same? n q)
      where
        go : (n ≡ q) ⊎ (n ≢ q) → Does (accessed n (got x v))
        go (inl z) = subst (λ (j : ℕ). Does (accessed j (got x v))) (sym z) (gets x v b (shown_it r x v (m ∙ z) g))
        go (inr d) = other n (got x v) d
    does (writes n r x v m b P) = go (same? n q)
      where
        not : (W.kind r ≡ an_update) ⊎ ((W.kind r ≡ a_settled) × T (W.writes r x)) → n ≡ q → ⊥
        not (inl k) z = same_kind r P.alive (m ∙ z) k (λ z. omega arith)
        not (inr k) z = same_kind r P.alive (m ∙ z) k.0 (λ z. omega arith)

        go : (n ≡ q) ⊎ (n ≢ q) → Does (accessed n (put x v))
        go (inl z) = absurd (not P.may z)
        go (inr d) = other n (put x v) d
    does (commits n r m a u L o e k) = nought refl
    does (commits_empty n r m a u w L o e k) = nought refl
    does (settles n r m B) = nought refl
    does (commits_settled n r m a u L o e k) = nought refl
    does (ends n r m a L o e k) = nought refl

  -- ---- a number that is not given begins, as a relaxed query or not, or does not
  pub data Begins (q : ℕ) : Happening → Type 0 where
    later : {h : Happening} → W'.last < q → began_relaxed q h ≡ false → ends_it q h ≡ false → Begins q h
    else : {h : Happening} → q ≤ W'.last → began_relaxed q h ≡ false → Begins q h
    now :
        {h : Happening} (s : ℕ) → New items W W' s → relaxed W' s → W'.number s ≡ q → committer h ≡ [] → ((m : ℕ) → access_of m h ≡ []) → ends_it q h ≡ false
        → T (began_relaxed q h) → ((k : ℕ) → place_of k h ≡ []) → Begins q h

  module _ (q : ℕ) (low : W.last < q) where
    -- no begin
    kept : {h : Happening} → W'.last ≡ W.last → began_relaxed q h ≡ false → ends_it q h ≡ false → Begins q h
    kept e a b = later (omega arith) a b

    -- one, of another kind
    step : {h : Happening} → W'.last ≡ W.last + 1 → began_relaxed q h ≡ false → ends_it q h ≡ false → Begins q h
    step {h} e a b = go (same? (W.last + 1) q)
      where
        go : (W.last + 1 ≡ q) ⊎ (W.last + 1 ≢ q) → Begins q h
        go (inl z) = else (omega arith) a
        go (inr d) = later (omega arith) a b

    pub begins : {c : Call} {h : Happening} → Turn items W W' c h → Begins q h
    unfolding began_relaxed ends_it committer access_of place_of
    begins (quiet A) = kept A.last refl refl
    begins (update_begins s B k e) = step B.last refl refl
    begins (query_begins s B k z e) = step B.last refl refl
    begins (relaxed_begins s B k e) = go (same? (W.last + 1) q)
      where
        go : (W.last + 1 ≡ q) ⊎ (W.last + 1 ≢ q) → Begins q (relaxed_began (W.last + 1))
        go (inl z) = now s B k (B.number ∙ z) refl (λ m. refl) refl (eq_make (W.last + 1) q z) (λ k. refl)
        go (inr d) = later (let l = B.last in omega arith) (ne_eqb (W.last + 1) q d) refl
    begins (reads n s x v m b A g) = kept A.last refl refl
    begins (writes n s x v m b P) = kept P.last refl refl
    begins (commits n s m a u L o e k) = kept L.last refl refl
    begins (commits_empty n s m a u w L o e k) = kept L.last refl refl
    begins (settles n s m B) = kept B.last refl refl
    begins (commits_settled n s m a u L o e k) = kept L.last refl refl
    begins (ends n s m a L o e k) =
        kept L.last refl (ne_eqb n q (λ z. let j = F.known s L.alive in omega arith))

  -- a number that was given does not begin
  module _ (q : ℕ) (given : q ≤ W.last) where
    pub begun-before : {c : Call} {h : Happening} → Turn items W W' c h → began_relaxed q h ≡ false
    unfolding began_relaxed
    begun-before (quiet A) = refl
    begun-before (update_begins s B k e) = refl
    begun-before (query_begins s B k z e) = refl
    begun-before (relaxed_begins s B k e) = ne_eqb (W.last + 1) q (λ z. omega arith)
    begun-before (reads n s x v m b A g) = refl
    begun-before (writes n s x v m b P) = refl
    begun-before (commits n s m a u L o e k) = refl
    begun-before (commits_empty n s m a u w L o e k) = refl
    begun-before (settles n s m B) = refl
    begun-before (commits_settled n s m a u L o e k) = refl
    begun-before (ends n s m a L o e k) = refl

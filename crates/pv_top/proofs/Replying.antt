-- What a command places and says, and what is asked and left by it.
use Rattle.std.proofs.Common.{◌≡◌, ◌≢◌, ◌⊎◌, ◌<◌, ◌≤◌, ◌+◌, ℕ, zero, suc, Bool, true, false, List, [], ◌∷◌, ◌++◌, length, map, take, Option, Some, None, Result, Ok, Err, get_or, inl, inr, refl, sym, ap, subst, ◌∙◌, arith}
use Rattle.std.specs.Prelude.{IfOk, option_map, slice_get}
use Rattle.std.specs.FinMap.{insert}
use Rattle.std.proofs.lemmas.List.{append-nil, length-map, take_all, take-append-le, take-map}
use Rattle.std.proofs.lemmas.Option.{slice_get-map, slice_get_within}
use Rattle.std.proofs.Math.Seq.{take-append-add}
use Rattle.pv_base.specs.Stored.{Stored}
use Rattle.pv_base.specs.Outside.{Rose}
use Rattle.pv_base.specs.declared.outside.Asked.{Asked}
use Rattle.pv_base.specs.declared.outside.Asked.TheVariants.{Fetch, Place}
use Rattle.pv_class.specs.declared.class.TheConstants.{LONGEST_FILE}
use Rattle.pv_report.specs.Options.{AxiomSet, Limits, Options, in_least}
use Rattle.pv_report.specs.declared.pair.Fetched.{Fetched}
use Rattle.pv_report.specs.declared.status.Status.{Status}
use Rattle.pv_report.specs.declared.status.Status.TheVariants as status
use Rattle.pv_report.specs.Judging.{IsFetchedWithin, JudgesFetched}
use Rattle.pv_report.specs.Report.{Judged}
use Rattle.pv_sections.specs.declared.certificate.TheConstants.{LONGEST_CERT}
use Rattle.pv_sections.specs.Reading.{RulesFetched}
use Rattle.pv_links.specs.declared.chain.TheConstants.{LONGEST_CHAIN}
use Rattle.pv_links.specs.Composed.{Composed}
use Rattle.pv_links.specs.Reading.{AreContents, ChainRulesFetched, ComposesFetched}
use Rattle.pv_migrate.specs.Migrated.{Migrated}
use Rattle.pv_migrate.specs.Reading.{SaysFetched}
use Rattle.pv_top.specs.declared.top.Reply.{Reply}
use Rattle.pv_top.specs.declared.words.Command.{Command}
use Rattle.pv_top.specs.declared.words.Command.TheVariants.{Validate, Check, Compose, CheckChain, Migrate, Make}
use Rattle.pv_top.specs.declared.words.Mode.TheVariants.{Cert}
use Rattle.pv_top.specs.Words.{fetches, made_line, names_of, placed_names}
use Rattle.pv_top.specs.Run.{AreContents as AreHeld, Says, Answered, IsAnswer, graphs_in, all_calls, fetch_calls, GrewBy, HasBadFile, IsBad, AskedFor, CallsFor, HoldsFront, HoldsPlaced, IsCutOff, IsPlaced, LeavesAt, LeavesKnown, LeavesBy, Leaves, insert_each}
use Rattle.pv_top.specs.Fetching.{HoldAll, AnswersFetched, AreFetched, ChangesAt, ComposesIn, FetchesOf, Gives, IsMadeAnswer, MakesIn, MigratesIn, PlaceCallsTo, PlaceCut, PlaceFailed, Places, PlacesFetched, PlacesIn, ReadFailed, ShowsIn, bytes_in, contents_of, names_in}
use Rattle.pv_top.proofs.Answering.{Contents, contents_of as fetched_bytes, said_of, said_result}
use Rattle.pv_top.proofs.Asking.{grew_more, more_nothing}
use Rattle.pv_top.proofs.Placing.{place_failed_since}
use Rattle.pv_top.proofs.Saying.{answer_meant, answered_said, as_put, is_meant, no_read_fault}

-- ---- which statuses come with what is placed

-- the status of a report
abbrev is_report : Status → Bool
is_report status.AllEquivalent = true
is_report status.Others = true
is_report s = false

-- where something is placed, a report is said
judged_report : (options : Options) (a b text : List ℕ) (s : Status) → (IsBad s → ⊥) → Judged options a b text s → is_report s ≡ true
judged_report options a b text status.AllEquivalent other h = refl
judged_report options a b text status.Others other h = refl
judged_report options a b text status.BadClass other h = absurd (other tt)
judged_report options a b text _ other h = absurd h.2

composed_report : (a b c x y text : List ℕ) (s : Status) → (IsBad s → ⊥) → Composed a b c x y text s → is_report s ≡ true
composed_report a b c x y text status.AllEquivalent other h = refl
composed_report a b c x y text status.BadClass other h = absurd (other tt)
composed_report a b c x y text status.BadCert other h = absurd (other tt)
composed_report a b c x y text _ other h = absurd h

migrated_report : (old text : List ℕ) (s : Status) → (IsBad s → ⊥) → Migrated old text s → is_report s ≡ true
migrated_report old text status.AllEquivalent other h = refl
migrated_report old text status.BadCert other h = absurd (other tt)
migrated_report old text _ other h = absurd h

-- a composition that places nothing has the status of a bad file
composed_bad : (a b c x y text : List ℕ) (s : Status) → s ≢ status.AllEquivalent → Composed a b c x y text s → IsBad s
composed_bad a b c x y text status.AllEquivalent other h = absurd (other refl)
composed_bad a b c x y text status.BadClass other h = tt
composed_bad a b c x y text status.BadCert other h = tt
composed_bad a b c x y text _ other h = absurd h

-- what holds of the bytes of three files and two certificates, holds of all contents that were fetched for a composition
five_contents : (P : List (List ℕ) → Type 0) (name a b c x y : List ℕ) (first second third one two : Fetched) → ((j k l m n : List ℕ) → AreContents first second third one two j k l m n → P (j ∷ k ∷ l ∷ m ∷ n ∷ [])) → (contents : List (List ℕ))
    → AreFetched (fetches (Compose a b c x y name)) (first ∷ second ∷ third ∷ one ∷ two ∷ []) contents → P contents
five_contents P name a b c x y first second third one two h (j ∷ k ∷ l ∷ m ∷ n ∷ []) f = h j k l m n (record { first = f.0; second = f.1.0; third = f.1.1.0; one = f.1.1.1.0; two = f.1.1.1.1.0 })
five_contents P name a b c x y first second third one two h [] f = absurd f
five_contents P name a b c x y first second third one two h (j ∷ []) f = absurd f.1
five_contents P name a b c x y first second third one two h (j ∷ k ∷ []) f = absurd f.1.1
five_contents P name a b c x y first second third one two h (j ∷ k ∷ l ∷ []) f = absurd f.1.1.1
five_contents P name a b c x y first second third one two h (j ∷ k ∷ l ∷ m ∷ []) f = absurd f.1.1.1.1
five_contents P name a b c x y first second third one two h (j ∷ k ∷ l ∷ m ∷ n ∷ o ∷ more) f = absurd f.1.1.1.1.1

-- five that were fetched, by their places
pub five_items : (fetched : List Fetched) (a b c d e : Fetched) → length fetched ≡ 5 → a ≡ get_or fetched 0 a → b ≡ get_or fetched 1 b → c ≡ get_or fetched 2 c → d ≡ get_or fetched 3 d → e ≡ get_or fetched 4 e → a ∷ b ∷ c ∷ d ∷ e ∷ [] ≡ fetched
five_items (v ∷ w ∷ x ∷ y ∷ z ∷ []) a b c d e n p q r s t = cc (p, q, r, s, t)
five_items [] a b c d e n p q r s t = absurd (omega (arith, n))
five_items (v ∷ []) a b c d e n p q r s t = absurd (omega (arith, n))
five_items (v ∷ w ∷ []) a b c d e n p q r s t = absurd (omega (arith, n))
five_items (v ∷ w ∷ x ∷ []) a b c d e n p q r s t = absurd (omega (arith, n))
five_items (v ∷ w ∷ x ∷ y ∷ []) a b c d e n p q r s t = absurd (omega (arith, n))
five_items (v ∷ w ∷ x ∷ y ∷ z ∷ o ∷ more) a b c d e n p q r s t = absurd (omega (arith, n))

module _ (name a b c x y : List ℕ) (first second third one two : Fetched) (text : List ℕ) (s : Status) where
  -- what is said of them is what the command answers
  chain_answers : ComposesFetched first second third one two text s → AnswersFetched (Compose a b c x y name) (first ∷ second ∷ third ∷ one ∷ two ∷ []) text s
  chain_answers answers = five_contents (λ (contents : List (List ℕ)). IsAnswer (Compose a b c x y name) contents text s) name a b c x y first second third one two answers

  -- .. and their chain what it places
  chain_places : (placed : List (List ℕ × List ℕ)) → ComposesFetched first second third one two text s → ComposesIn name first second third one two s placed → PlacesFetched (Compose a b c x y name) (first ∷ second ∷ third ∷ one ∷ two ∷ []) s placed
  chain_places [] answers makes = five_contents (λ (contents : List (List ℕ)). Places (Compose a b c x y name) contents s []) name a b c x y first second third one two (λ j k l m n are. inr (composed_bad j k l m n text s makes (answers j k l m n are)))
  chain_places (p ∷ []) answers makes =
      five_contents (λ (contents : List (List ℕ)). Places (Compose a b c x y name) contents s (p ∷ [])) name a b c x y first second third one two (λ j k l m n are. (ap (λ (w : List ℕ). w ∷ []) (sym makes.0), makes.1 j k l m n are, λ bad. subst IsBad makes.2 bad))
  chain_places (p ∷ q ∷ more) answers makes = absurd makes

module _ (command : Command (List ℕ)) (fetched : List Fetched) (name a b c x y : List ℕ) (first second third one two : Fetched) (is : command ≡ Compose a b c x y name) (items : first ∷ second ∷ third ∷ one ∷ two ∷ [] ≡ fetched) where
  -- .. where there is a reply
  pub reply_answers : {E : Type 0} (r : Result Reply E) → IfOk r (λ reply. ComposesFetched first second third one two reply.answer.text.items reply.answer.status) → IfOk r (λ reply. AnswersFetched command fetched reply.answer.text.items reply.answer.status)
  reply_answers (Err e) answers = tt
  reply_answers (Ok reply) answers =
      let text = reply.answer.text.items in
      let s = reply.answer.status in
      let all = chain_answers name a b c x y first second third one two text s answers in
      subst (λ (k : Command (List ℕ)). AnswersFetched k fetched text s) (sym is) (subst (λ (f : List Fetched). AnswersFetched (Compose a b c x y name) f text s) items all)

  pub reply_places : {E : Type 0} (r : Result Reply E) → IfOk r (λ reply. ComposesFetched first second third one two reply.answer.text.items reply.answer.status) → IfOk r (λ reply. ComposesIn name first second third one two reply.answer.status (contents_of reply.placed.items))
      → IfOk r (λ reply. PlacesFetched command fetched reply.answer.status (contents_of reply.placed.items))
  reply_places (Err e) answers makes = tt
  reply_places (Ok reply) answers makes =
      let s = reply.answer.status in
      let p = contents_of reply.placed.items in
      let all = chain_places name a b c x y first second third one two reply.answer.text.items s p answers makes in
      subst (λ (k : Command (List ℕ)). PlacesFetched k fetched s p) (sym is) (subst (λ (f : List Fetched). PlacesFetched (Compose a b c x y name) f s p) items all)

-- ---- a certificate or a chain that is checked

-- two and three that were fetched, by their places
pub two_items : (fetched : List Fetched) (a b : Fetched) → length fetched ≡ 2 → a ≡ get_or fetched 0 a → b ≡ get_or fetched 1 b → a ∷ b ∷ [] ≡ fetched
two_items (v ∷ w ∷ []) a b n p q = cc (p, q)
two_items [] a b n p q = absurd (omega (arith, n))
two_items (v ∷ []) a b n p q = absurd (omega (arith, n))
two_items (v ∷ w ∷ x ∷ more) a b n p q = absurd (omega (arith, n))

pub three_items : (fetched : List Fetched) (a b c : Fetched) → length fetched ≡ 3 → a ≡ get_or fetched 0 a → b ≡ get_or fetched 1 b → c ≡ get_or fetched 2 c → a ∷ b ∷ c ∷ [] ≡ fetched
three_items (v ∷ w ∷ x ∷ []) a b c n p q r = cc (p, q, r)
three_items [] a b c n p q r = absurd (omega (arith, n))
three_items (v ∷ []) a b c n p q r = absurd (omega (arith, n))
three_items (v ∷ w ∷ []) a b c n p q r = absurd (omega (arith, n))
three_items (v ∷ w ∷ x ∷ y ∷ more) a b c n p q r = absurd (omega (arith, n))

-- what holds of the bytes of three files, holds of all contents that were fetched for them
three_contents : (P : List (List ℕ) → Type 0) (f g h : List ℕ × ℕ) (first second third : Fetched) → ((x y z : List ℕ) → IsFetchedWithin f.1 first x → IsFetchedWithin g.1 second y → IsFetchedWithin h.1 third z → P (x ∷ y ∷ z ∷ [])) → (contents : List (List ℕ))
    → AreFetched (f ∷ g ∷ h ∷ []) (first ∷ second ∷ third ∷ []) contents → P contents
three_contents P f g h first second third so (x ∷ y ∷ z ∷ []) are = so x y z are.0 are.1.0 are.1.1.0
three_contents P f g h first second third so [] are = absurd are
three_contents P f g h first second third so (x ∷ []) are = absurd are.1
three_contents P f g h first second third so (x ∷ y ∷ []) are = absurd are.1.1
three_contents P f g h first second third so (x ∷ y ∷ z ∷ w ∷ more) are = absurd are.1.1.1

module _ (command : Command (List ℕ)) (fetched : List Fetched) (a b cert : List ℕ) (first second third : Fetched) (text : List ℕ) (s : Status) (items : first ∷ second ∷ third ∷ [] ≡ fetched) where
  pub check_answers : command ≡ Check a b cert → RulesFetched first second third text s → AnswersFetched command fetched text s
  check_answers is rules =
      let all : AnswersFetched (Check a b cert) (first ∷ second ∷ third ∷ []) text s =
      three_contents (λ (contents : List (List ℕ)). IsAnswer (Check a b cert) contents text s) (a, LONGEST_FILE) (b, LONGEST_FILE) (cert, LONGEST_CERT) first second third rules
      in
      subst (λ (k : Command (List ℕ)). AnswersFetched k fetched text s) (sym is) (subst (λ (f : List Fetched). AnswersFetched (Check a b cert) f text s) items all)

  pub chain_rules : command ≡ CheckChain a b cert → ChainRulesFetched first second third text s → AnswersFetched command fetched text s
  chain_rules is rules =
      let all : AnswersFetched (CheckChain a b cert) (first ∷ second ∷ third ∷ []) text s =
      three_contents (λ (contents : List (List ℕ)). IsAnswer (CheckChain a b cert) contents text s) (a, LONGEST_FILE) (b, LONGEST_FILE) (cert, LONGEST_CHAIN) first second third rules
      in
      subst (λ (k : Command (List ℕ)). AnswersFetched k fetched text s) (sym is) (subst (λ (f : List Fetched). AnswersFetched (CheckChain a b cert) f text s) items all)

-- ---- a certificate that is placed

judged_good : (options : Options) (a b text : List ℕ) (s : Status) → s ≢ status.BadClass → Judged options a b text s → IsBad s → ⊥
judged_good options a b text status.BadClass other h bad = other refl
judged_good options a b text status.BadCert other h bad = absurd h.2
judged_good options a b text _ other h bad = absurd bad

module _ (command : Command (List ℕ)) (fetched : List Fetched) (name a b : List ℕ) (axioms : AxiomSet) (rounds budget : ℕ) (first second : Fetched) (is : command ≡ Validate a b axioms rounds budget (Cert name)) (items : first ∷ second ∷ [] ≡ fetched) where
  abbrev limits : Limits
  limits = record { axioms = axioms; rounds = rounds; budget = budget }

  shown_places : (text : List ℕ) (s : Status) (placed : List (List ℕ × List ℕ)) → JudgesFetched (in_least limits) first second text s → ShowsIn limits name first second s placed → PlacesFetched (Validate a b axioms rounds budget (Cert name)) (first ∷ second ∷ []) s placed
  shown_places text s [] judges shows contents f = inr (subst IsBad (sym shows) tt)
  shown_places text s (p ∷ q ∷ more) judges shows contents f = absurd shows
  shown_places text s (p ∷ []) judges shows (x ∷ y ∷ []) f = (ap (λ (w : List ℕ). w ∷ []) (sym shows.0), shows.1 x y f.0 f.1.0, judged_good (in_least limits) x y text s shows.2 (judges x y f.0 f.1.0))
  shown_places text s (p ∷ []) judges shows [] f = absurd f
  shown_places text s (p ∷ []) judges shows (x ∷ []) f = absurd f.1
  shown_places text s (p ∷ []) judges shows (x ∷ y ∷ z ∷ more) f = absurd f.1.1

  pub show_places : {E : Type 0} (r : Result Reply E) → IfOk r (λ reply. JudgesFetched (in_least limits) first second reply.answer.text.items reply.answer.status) → IfOk r (λ reply. ShowsIn limits name first second reply.answer.status (contents_of reply.placed.items))
      → IfOk r (λ reply. PlacesFetched command fetched reply.answer.status (contents_of reply.placed.items))
  show_places (Err e) judges shows = tt
  show_places (Ok reply) judges shows =
      let s = reply.answer.status in
      let p = contents_of reply.placed.items in
      let all = shown_places reply.answer.text.items s p judges shows in
      subst (λ (k : Command (List ℕ)). PlacesFetched k fetched s p) (sym is) (subst (λ (f : List Fetched). PlacesFetched (Validate a b axioms rounds budget (Cert name)) f s p) items all)

-- ---- a certificate of version 1

-- where nothing is placed, the certificate has no reading
migrated_bad : (old text : List ℕ) (s : Status) → s ≢ status.AllEquivalent → Migrated old text s → IsBad s
migrated_bad old text status.AllEquivalent other h = absurd (other refl)
migrated_bad old text status.BadCert other h = tt
migrated_bad old text _ other h = absurd h

-- what holds of the bytes of a certificate, holds of all contents that were fetched for it
one_content : (P : List (List ℕ) → Type 0) (f : List ℕ × ℕ) (cert : Fetched) → ((x : List ℕ) → IsFetchedWithin f.1 cert x → P (x ∷ [])) → (contents : List (List ℕ)) → AreFetched (f ∷ []) (cert ∷ []) contents → P contents
one_content P f cert so (x ∷ []) are = so x are.0
one_content P f cert so [] are = absurd are
one_content P f cert so (x ∷ y ∷ more) are = absurd are.1

-- one that was fetched
pub one_item : (fetched : List Fetched) (a : Fetched) → length fetched ≡ 1 → a ≡ get_or fetched 0 a → a ∷ [] ≡ fetched
one_item (v ∷ []) a n p = ap (λ (x : Fetched). x ∷ []) p
one_item [] a n p = absurd (omega (arith, n))
one_item (v ∷ w ∷ more) a n p = absurd (omega (arith, n))

module _ (command : Command (List ℕ)) (fetched : List Fetched) (name file : List ℕ) (cert : Fetched) (is : command ≡ Migrate file name) (items : cert ∷ [] ≡ fetched) where
  migration_places : (text : List ℕ) (s : Status) (placed : List (List ℕ × List ℕ)) → SaysFetched cert text s → MigratesIn name cert s placed → PlacesFetched (Migrate file name) (cert ∷ []) s placed
  migration_places text s [] says makes = one_content (λ (contents : List (List ℕ)). Places (Migrate file name) contents s []) (file, LONGEST_CERT) cert (λ x got. inr (migrated_bad x text s makes (says x got)))
  migration_places text s (p ∷ []) says makes =
      one_content (λ (contents : List (List ℕ)). Places (Migrate file name) contents s (p ∷ [])) (file, LONGEST_CERT) cert (λ x got. (ap (λ (w : List ℕ). w ∷ []) (sym makes.0), makes.1 x got, λ bad. subst IsBad makes.2 bad))
  migration_places text s (p ∷ q ∷ more) says makes = absurd makes

  pub migrate_answers : {E : Type 0} (r : Result Reply E) → IfOk r (λ reply. SaysFetched cert reply.answer.text.items reply.answer.status) → IfOk r (λ reply. AnswersFetched command fetched reply.answer.text.items reply.answer.status)
  migrate_answers (Err e) says = tt
  migrate_answers (Ok reply) says =
      let text = reply.answer.text.items in
      let s = reply.answer.status in
      let all : AnswersFetched (Migrate file name) (cert ∷ []) text s = one_content (λ (contents : List (List ℕ)). IsAnswer (Migrate file name) contents text s) (file, LONGEST_CERT) cert says in
      subst (λ (k : Command (List ℕ)). AnswersFetched k fetched text s) (sym is) (subst (λ (f : List Fetched). AnswersFetched (Migrate file name) f text s) items all)

  pub migrate_places : {E : Type 0} (r : Result Reply E) → IfOk r (λ reply. SaysFetched cert reply.answer.text.items reply.answer.status) → IfOk r (λ reply. MigratesIn name cert reply.answer.status (contents_of reply.placed.items))
      → IfOk r (λ reply. PlacesFetched command fetched reply.answer.status (contents_of reply.placed.items))
  migrate_places (Err e) says makes = tt
  migrate_places (Ok reply) says makes =
      let s = reply.answer.status in
      let p = contents_of reply.placed.items in
      let all = migration_places reply.answer.text.items s p says makes in
      subst (λ (k : Command (List ℕ)). PlacesFetched k fetched s p) (sym is) (subst (λ (f : List Fetched). PlacesFetched (Migrate file name) f s p) items all)

-- ---- two classes that were made

module _ (command : Command (List ℕ)) (seed count : ℕ) (first second : List ℕ) (is : command ≡ Make seed count first second) where
  made_answers : (fetched : List Fetched) (text : List ℕ) (s : Status) → text ≡ made_line count → s ≡ status.AllEquivalent → AnswersFetched (Make seed count first second) fetched text s
  made_answers [] text s e same [] f = (e, same)
  made_answers [] text s e same (bytes ∷ contents) f = absurd f
  made_answers (x ∷ fetched) text s e same contents f = absurd f

  made_places : (fetched : List Fetched) (s : Status) (placed : List (List ℕ × List ℕ)) → s ≡ status.AllEquivalent → MakesIn seed count first second placed → PlacesFetched (Make seed count first second) fetched s placed
  made_places fetched s [] same makes contents f = absurd makes
  made_places fetched s (p ∷ []) same makes contents f = absurd makes
  made_places fetched s (p ∷ q ∷ r ∷ more) same makes contents f = absurd makes
  made_places [] s (p ∷ q ∷ []) same makes [] f = (ap (λ (w : List ℕ). w ∷ second ∷ []) (sym makes.0) ∙ ap (λ (w : List ℕ). p.0 ∷ w ∷ []) (sym makes.1), (makes.2, makes.3), λ bad. subst IsBad same bad)
  made_places [] s (p ∷ q ∷ []) same makes (bytes ∷ contents) f = absurd f
  made_places (x ∷ fetched) s (p ∷ q ∷ []) same makes contents f = absurd f

  pub make_answers : {E : Type 0} (fetched : List Fetched) (r : Result Reply E) → IfOk r (λ reply. IsMadeAnswer count reply.answer) → IfOk r (λ reply. AnswersFetched command fetched reply.answer.text.items reply.answer.status)
  make_answers fetched (Err e) answers = tt
  make_answers fetched (Ok reply) answers =
      let text = reply.answer.text.items in
      let s = reply.answer.status in
      subst (λ (k : Command (List ℕ)). AnswersFetched k fetched text s) (sym is) (made_answers fetched text s answers.0 answers.1)

  pub make_places : {E : Type 0} (fetched : List Fetched) (r : Result Reply E) → IfOk r (λ reply. IsMadeAnswer count reply.answer) → IfOk r (λ reply. MakesIn seed count first second (contents_of reply.placed.items))
      → IfOk r (λ reply. PlacesFetched command fetched reply.answer.status (contents_of reply.placed.items))
  make_places fetched (Err e) answers makes = tt
  make_places fetched (Ok reply) answers makes =
      let s = reply.answer.status in
      let p = contents_of reply.placed.items in
      subst (λ (k : Command (List ℕ)). PlacesFetched k fetched s p) (sym is) (made_places fetched s p answers.1 makes)

-- where something is placed, a report is said
placed_report : (c : Command (List ℕ)) (contents : List (List ℕ)) (p : List ℕ × List ℕ) (placed : List (List ℕ × List ℕ)) (text : List ℕ) (s : Status) → IsAnswer c contents text s → Places c contents s (p ∷ placed) → is_report s ≡ true
placed_report (Validate a b axioms rounds budget mode) (x ∷ y ∷ []) p placed text s answer places = judged_report (record { limits = record { axioms = axioms; rounds = rounds; budget = budget }; graphs = graphs_in mode }) x y text s places.2 answer
placed_report (Compose a b c x y out) (j ∷ k ∷ l ∷ m ∷ n ∷ []) p placed text s answer places = composed_report j k l m n text s places.2 answer
placed_report (Migrate cert out) (x ∷ []) p placed text s answer places = migrated_report x text s places.2 answer
placed_report (Make seed count a b) [] p placed text s answer places = ap is_report answer.1
placed_report _ _ p placed text s answer places = absurd places.1

-- what is said has its own status, or that of a fault of the sink
said_status : (old new : Option (List ℕ)) (text : List ℕ) (meant result : Status) (rose : Type 0) → Says old new text meant result rose → (result ≡ meant) ⊎ ((result ≡ status.WriteFault) × rose)
said_status old new text meant result rose says =
    elim (as_put old new text meant result rose says) [
      | inl s ↦ inl s.0
      | inr s ↦ inr (s.0, s.1)
    ]

-- ---- a reply to what was fetched

pub record IsReply (held : Option Stored) (c : Command (List ℕ)) (fetched : List Fetched) (placed : List (List ℕ × List ℕ)) (text : List ℕ) (meant : Status) : Type 0 where
  pub holds : HoldAll held (fetches c) fetched
  pub answers : AnswersFetched c fetched text meant
  pub places : PlacesFetched c fetched meant placed

-- faults since the files were fetched are faults since before
cut_since : (held now : Option Stored) (asked later : Option (List Asked)) (placed : List (List ℕ × List ℕ)) (s : Status) (old mid new : ℕ) → old ≤ mid → PlaceCut held now asked later placed s (Rose mid new) → PlaceCut held now asked later placed s (Rose old new)
cut_since held now asked later placed s old mid new le cut = record {
  failed = place_failed_since s old mid new le cut.failed;
  n = cut.n;
  one = cut.one;
  next = cut.next;
  between = cut.between;
  front = cut.front;
  changes = cut.changes;
  calls = cut.calls;
}

pub gives_since : (held now : Option Stored) (asked later : Option (List Asked)) (placed : List (List ℕ × List ℕ)) (before after : Option (List ℕ)) (text : List ℕ) (meant result : Status) (write_rose : Type 0) (old mid new : ℕ) → old ≤ mid
    → Gives held now asked later placed before after text meant result (Rose mid new) write_rose → Gives held now asked later placed before after text meant result (Rose old new) write_rose
gives_since held now asked later placed before after text meant result write_rose old mid new le (inl done) = inl done
gives_since held now asked later placed before after text meant result write_rose old mid new le (inr cut) = inr (cut_since held now asked later placed result old mid new le cut.0, cut.1)

-- the names under which something is placed are those of the command
names_are : (c : Command (List ℕ)) (contents : List (List ℕ)) (s : Status) (placed : List (List ℕ × List ℕ)) (n : ℕ) (one : List ℕ × List ℕ) → slice_get placed n ≡ Some one → Places c contents s placed → placed_names c ≡ names_in placed
names_are c contents s [] n one next places = absurd (cc next)
names_are c contents s (p ∷ placed) n one next places = places.0

some_names : (placed : List (List ℕ × List ℕ)) (n : ℕ) (one : List ℕ × List ℕ) → slice_get placed n ≡ Some one → names_in placed ≢ []
some_names [] n one next e = cc next
some_names (p ∷ placed) n one next e = cc e

module _ (held : Option Stored) (c : Command (List ℕ)) (fetched : List Fetched) (text : List ℕ) (meant result : Status) where
  got : HoldAll held (fetches c) fetched → Contents held (fetches c) fetched
  got h = fetched_bytes held (fetches c) fetched h

  module _ (old new : Option (List ℕ)) (files_rose write_rose : Type 0) where
    said_answered : (placed : List (List ℕ × List ℕ)) → IsReply held c fetched placed text meant → Says old new text meant result write_rose → Answered held (Some c) old new files_rose write_rose result
    said_answered placed r says =
        let said = said_of held c fetched old new write_rose text meant result r.holds r.answers says in
        answered_said held c old new files_rose write_rose result (said_result held c old new write_rose result said) said

    failed_answered : (s : Status) → placed_names c ≢ [] → PlaceFailed s files_rose → new ≡ old → Answered held (Some c) old new files_rose write_rose s
    failed_answered status.WriteFault some failed same = inl (some, failed, same)
    failed_answered status.Memory some failed same = same
    failed_answered _ some failed same = absurd failed

    -- what is said
    pub reply_answered : (now : Option Stored) (asked later : Option (List Asked)) (placed : List (List ℕ × List ℕ)) → IsReply held c fetched placed text meant → Gives held now asked later placed old new text meant result files_rose write_rose
        → Answered held (Some c) old new files_rose write_rose result
    reply_answered now asked later placed r (inl done) = said_answered placed r done.1
    reply_answered now asked later placed r (inr cut) =
        let g = got r.holds in
        let names = names_are c g.contents meant placed cut.0.n cut.0.one cut.0.next (r.places g.contents g.are_fetched) in
        failed_answered result (subst (λ (n : List (List ℕ)). n ≢ []) (sym names) (some_names placed cut.0.n cut.0.one cut.0.next)) cut.0.failed cut.1

    -- with which status, where something is placed
    whole_result : (p : List ℕ × List ℕ) (placed : List (List ℕ × List ℕ)) → IsReply held c fetched (p ∷ placed) text meant → Says old new text meant result write_rose → (is_report result ≡ true) ⊎ ((result ≡ status.WriteFault) × write_rose)
    whole_result p placed r says =
        let g = got r.holds in
        let report = placed_report c g.contents p placed text meant (r.answers g.contents g.are_fetched) (r.places g.contents g.are_fetched) in
        elim (said_status old new text meant result write_rose says) [
          | inl e ↦ inl (ap is_report e ∙ report)
          | inr e ↦ inr e
        ]

    -- .. and where nothing is: the command has no name for it, or a file is bad
    bare_result : IsReply held c fetched [] text meant → Says old new text meant result write_rose → (placed_names c ≡ []) ⊎ (HasBadFile held c × (IsBad result ⊎ ((result ≡ status.WriteFault) × write_rose)))
    bare_result r says =
        let g = got r.holds in
        elim (r.places g.contents g.are_fetched) [
          | inl none ↦ inl none
          | inr bad ↦ inr (
            record { contents = g.contents; are_held = g.are_held; text = text; meant = meant; bad = bad; answer = r.answers g.contents g.are_fetched },
            elim (said_status old new text meant result write_rose says) [
              | inl e ↦ inl (subst IsBad (sym e) bad)
              | inr e ↦ inr e
            ],
          )
        ]

    -- .. then a fault is one of the sink
    bare_fault : IsReply held c fetched [] text meant → Says old new text meant result write_rose → result ≡ status.WriteFault → write_rose
    bare_fault r says e =
        let g = got r.holds in
        let answer = answer_meant c g.contents text meant (r.answers g.contents g.are_fetched) in
        elim (said_status old new text meant result write_rose says) [
          | inl same ↦ absurd (let no : is_meant status.WriteFault ≡ true = subst (λ (s : Status). is_meant s ≡ true) (sym same ∙ e) answer in cc no)
          | inr failed ↦ failed.1
        ]

-- ---- what is asked

all_unnamed : (c : Command (List ℕ)) → placed_names c ≡ [] → all_calls c ≡ fetch_calls c
all_unnamed c none = ap (λ (names : List (List ℕ)). fetch_calls c ++ map Place names) none ∙ append-nil (fetch_calls c)

-- the first calls of a command are fetches
calls_front : (c : Command (List ℕ)) (n : ℕ) → n ≤ length (names_of c) → take n (all_calls c) ≡ map Fetch (take n (names_of c))
calls_front c n le = take-append-le n (fetch_calls c) (map Place (placed_names c)) (subst (λ (k : ℕ). n ≤ k) (sym (length-map (names_of c) Fetch)) le) ∙ take-map Fetch n (names_of c)

-- .. and then some of its places
places_front : (c : Command (List ℕ)) (placed : List (List ℕ × List ℕ)) (n : ℕ) → placed_names c ≡ names_in placed → fetch_calls c ++ map Place (names_in (take n placed)) ≡ fetch_calls c ++ map Place (take n (placed_names c))
places_front c placed n names = ap (λ (all : List (List ℕ)). fetch_calls c ++ map Place all) (sym (take-map (λ (p : List ℕ × List ℕ). p.0) n placed) ∙ ap (take n) (sym names))

calls_some : (c : Command (List ℕ)) (n : ℕ) → fetch_calls c ++ map Place (take n (placed_names c)) ≡ take (length (fetch_calls c) + n) (all_calls c)
calls_some c n = sym (take-append-add (fetch_calls c) (map Place (placed_names c)) n ∙ ap (λ (all : List Asked). fetch_calls c ++ all) (take-map Place n (placed_names c)))

module _ (held : Option Stored) (c : Command (List ℕ)) (old new : Option (List Asked)) (write_rose : Type 0) where
  -- a fetch failed, or memory ran out
  pub fetches_asked : (s : Status) (rose : Type 0) → FetchesOf held old new (names_of c) s → ReadFailed s rose → AskedFor held c old new write_rose s
  fetches_asked status.ReadFault rose h failed = h
  fetches_asked status.Memory rose h failed = (h.0, subst (GrewBy old new) (sym (calls_front c h.0 h.1)) h.2)
  fetches_asked _ rose h failed = absurd failed

  -- all fetches were answered, and memory ran out
  pub memory_asked : GrewBy old new (fetch_calls c) → AskedFor held c old new write_rose status.Memory
  memory_asked grew =
      let n = length (names_of c) in
      (n, subst (GrewBy old new) (sym (calls_front c n (omega arith) ∙ ap (map Fetch) (take_all n (names_of c) (omega arith)))) grew)

  -- all calls were made
  all_asked : (s : Status) → (is_report s ≡ true) ⊎ ((s ≡ status.WriteFault) × write_rose) → GrewBy old new (all_calls c) → AskedFor held c old new write_rose s
  all_asked s (inr e) grew = subst (AskedFor held c old new write_rose) (sym e.0) (inr (e.1, inl grew))
  all_asked status.AllEquivalent (inl is) grew = grew
  all_asked status.Others (inl is) grew = grew
  all_asked s (inl is) grew = absurd (cc is)

  -- .. and there was nothing to place
  unnamed_asked : (s : Status) → s ≢ status.ReadFault → (s ≡ status.WriteFault → write_rose) → placed_names c ≡ [] → GrewBy old new (fetch_calls c) → AskedFor held c old new write_rose s
  unnamed_asked status.AllEquivalent other fault none grew = subst (GrewBy old new) (sym (all_unnamed c none)) grew
  unnamed_asked status.Others other fault none grew = subst (GrewBy old new) (sym (all_unnamed c none)) grew
  unnamed_asked status.WriteFault other fault none grew = inr (fault refl, inl (subst (GrewBy old new) (sym (all_unnamed c none)) grew))
  unnamed_asked status.Memory other fault none grew = memory_asked grew
  unnamed_asked status.ReadFault other fault none grew = absurd (other refl)
  unnamed_asked _ other fault none grew = grew

  bad_said : (s : Status) → IsBad s → GrewBy old new (fetch_calls c) → AskedFor held c old new write_rose s
  bad_said status.BadClass is grew = grew
  bad_said status.BadCert is grew = grew
  bad_said _ is grew = absurd is

  bad_asked : (s : Status) → HasBadFile held c → IsBad s ⊎ ((s ≡ status.WriteFault) × write_rose) → GrewBy old new (fetch_calls c) → AskedFor held c old new write_rose s
  bad_asked s bad (inl is) grew = bad_said s is grew
  bad_asked s bad (inr is) grew = subst (λ (t : Status). AskedFor held c old new write_rose t) (sym is.0) (inr (is.1, inr (bad, grew)))

  -- a place was cut off
  cut_asked : (mid : Option (List Asked)) (placed : List (List ℕ × List ℕ)) (n : ℕ) (s : Status) (rose : Type 0) → placed_names c ≡ names_in placed → n < length placed → GrewBy old mid (fetch_calls c) → PlaceFailed s rose → PlaceCallsTo mid new placed n s → AskedFor held c old new write_rose s
  cut_asked mid placed n s rose names below grew failed calls = by s failed calls
    where
      some_calls : (k : ℕ) → GrewBy mid new (map Place (names_in (take k placed))) → GrewBy old new (fetch_calls c ++ map Place (take k (placed_names c)))
      some_calls k more = subst (GrewBy old new) (places_front c placed k names) (grew_more old mid new (fetch_calls c) (map Place (names_in (take k placed))) grew more)

      by : (s : Status) → PlaceFailed s rose → PlaceCallsTo mid new placed n s → AskedFor held c old new write_rose s
      by status.WriteFault failed calls = inl (n, subst (λ (all : List (List ℕ)). n < length all) (sym names) (subst (λ (k : ℕ). n < k) (sym (length-map placed (λ (p : List ℕ × List ℕ). p.0))) below), some_calls (suc n) calls)
      by status.Memory failed (inl calls) = (length (fetch_calls c) + n, subst (GrewBy old new) (calls_some c n) (some_calls n calls))
      by status.Memory failed (inr calls) = (length (fetch_calls c) + suc n, subst (GrewBy old new) (calls_some c (suc n)) (some_calls (suc n) calls))
      by _ failed calls = absurd failed

-- what a reply asks
pub reply_asked : (held now : Option Stored) (c : Command (List ℕ)) (fetched : List Fetched) (placed : List (List ℕ × List ℕ)) (text : List ℕ) (meant result : Status) (sent_old sent_new : Option (List ℕ)) (files_rose write_rose : Type 0) (old mid new : Option (List Asked))
    → IsReply held c fetched placed text meant → Gives held now mid new placed sent_old sent_new text meant result files_rose write_rose → GrewBy old mid (fetch_calls c) → AskedFor held c old new write_rose result
reply_asked held now c fetched [] text meant result sent_old sent_new files_rose write_rose old mid new r (inl done) grew =
    let all : GrewBy old new (fetch_calls c) = subst (GrewBy old new) (append-nil (fetch_calls c)) (grew_more old mid new (fetch_calls c) [] grew done.0.calls) in
    let said = said_of held c fetched sent_old sent_new write_rose text meant result r.holds r.answers done.1 in
    let is = said_result held c sent_old sent_new write_rose result said in
    elim (bare_result held c fetched text meant result sent_old sent_new files_rose write_rose r done.1) [
      | inl none ↦ unnamed_asked held c old new write_rose result (no_read_fault result is) (bare_fault held c fetched text meant result sent_old sent_new files_rose write_rose r done.1) none all
      | inr bad ↦ bad_asked held c old new write_rose result bad.0 bad.1 all
    ]
reply_asked held now c fetched (p ∷ placed) text meant result sent_old sent_new files_rose write_rose old mid new r (inl done) grew =
    let g = fetched_bytes held (fetches c) fetched r.holds in
    let names = (r.places g.contents g.are_fetched).0 in
    all_asked held c old new write_rose result (whole_result held c fetched text meant result sent_old sent_new files_rose write_rose p placed r done.1)
    (subst (GrewBy old new) (ap (λ (all : List (List ℕ)). fetch_calls c ++ map Place all) (sym names)) (grew_more old mid new (fetch_calls c) (map Place (names_in (p ∷ placed))) grew done.0.calls))
reply_asked held now c fetched placed text meant result sent_old sent_new files_rose write_rose old mid new r (inr cut) grew =
    let g = fetched_bytes held (fetches c) fetched r.holds in
    let names = names_are c g.contents meant placed cut.0.n cut.0.one cut.0.next (r.places g.contents g.are_fetched) in
    cut_asked held c old new write_rose mid placed cut.0.n result files_rose names (slice_get_within placed cut.0.n cut.0.one cut.0.next) grew cut.0.failed cut.0.calls

-- ---- what is left

module _ (c : Command (List ℕ)) (files_rose write_rose : Type 0) where
  -- the store is as it was, where the status is that of a fault or of a file without a reading
  same_left : (name : List ℕ) (names : List (List ℕ)) (held : Option Stored) (s : Status) → placed_names c ≡ name ∷ names → is_report s ≡ false → (s ≡ status.WriteFault → write_rose × HasBadFile held c) → LeavesKnown c held held files_rose write_rose s
  same_left name names None s e is fault = tt
  same_left name names (Some m) status.AllEquivalent e is fault = absurd (cc is)
  same_left name names (Some m) status.Others e is fault = absurd (cc is)
  same_left name names (Some m) status.WriteFault e is fault = let bad = fault refl in inr (bad.0, inr (bad.1, refl))
  same_left name names (Some m) status.Memory e is fault = record { n = 0; name = name; next = ap (λ (all : List (List ℕ)). slice_get all 0) e; between = m; front = refl; changes = λ other apart. refl }
  same_left name names (Some m) _ e is fault = refl

  -- a command whose names are these
  left_named : (names : List (List ℕ)) (old new : Option Stored) (s : Status) → placed_names c ≡ names → LeavesBy names c old new files_rose write_rose s → Leaves (Some c) old new files_rose write_rose s
  left_named names old new s is h = subst (λ (n : List (List ℕ)). LeavesBy n c old new files_rose write_rose s) (sym is) h

  -- nothing is placed, and there is no report
  pub unchanged : (held : Option Stored) (s : Status) → is_report s ≡ false → (s ≡ status.WriteFault → write_rose × HasBadFile held c) → Leaves (Some c) held held files_rose write_rose s
  unchanged held s is fault = go (placed_names c) refl
    where
      go : (names : List (List ℕ)) → placed_names c ≡ names → Leaves (Some c) held held files_rose write_rose s
      go [] e = left_named [] held held s e refl
      go (name ∷ names) e = left_named (name ∷ names) held held s e (same_left name names held s e is fault)

  -- .. since one of its files is bad
  unchanged_said : (held : Option Stored) (s : Status) → IsBad s → Leaves (Some c) held held files_rose write_rose s
  unchanged_said held status.BadClass is = unchanged held status.BadClass refl (λ fault. absurd (cc fault))
  unchanged_said held status.BadCert is = unchanged held status.BadCert refl (λ fault. absurd (cc fault))
  unchanged_said held _ is = absurd is

  unchanged_bad : (held : Option Stored) (s : Status) → HasBadFile held c → IsBad s ⊎ ((s ≡ status.WriteFault) × write_rose) → Leaves (Some c) held held files_rose write_rose s
  unchanged_bad held s bad (inl is) = unchanged_said held s is
  unchanged_bad held s bad (inr e) = unchanged held s (ap is_report e.0) (λ fault. (e.1, bad))

  -- .. since a fetch failed, or memory ran out
  pub unchanged_read : (held : Option Stored) (s : Status) (rose : Type 0) → ReadFailed s rose → Leaves (Some c) held held files_rose write_rose s
  unchanged_read held status.ReadFault rose failed = unchanged held status.ReadFault refl (λ fault. absurd (cc fault))
  unchanged_read held status.Memory rose failed = unchanged held status.Memory refl (λ fault. absurd (cc fault))
  unchanged_read held _ rose failed = absurd failed

  -- all was placed
  placed_at : (old new : Stored) (s : Status) → (is_report s ≡ true) ⊎ ((s ≡ status.WriteFault) × write_rose) → HoldsPlaced old new c (placed_names c) → LeavesAt c old new files_rose write_rose s
  placed_at old new s (inr e) h = subst (LeavesAt c old new files_rose write_rose) (sym e.0) (inr (e.1, inl h))
  placed_at old new status.AllEquivalent (inl is) h = h
  placed_at old new status.Others (inl is) h = h
  placed_at old new s (inl is) h = absurd (cc is)

  -- a place was cut off
  cut_at : (old new : Stored) (s : Status) → PlaceFailed s files_rose → IsCutOff old new c → LeavesAt c old new files_rose write_rose s
  cut_at old new status.WriteFault failed cut = inl (failed, cut)
  cut_at old new status.Memory failed cut = cut
  cut_at old new _ failed cut = absurd failed

-- the first of names take the first of the bytes
first_each : (n : ℕ) (m : Stored) (placed : List (List ℕ × List ℕ)) → insert_each m (names_in (take n placed)) (bytes_in (take n placed)) ≡ insert_each m (take n (names_in placed)) (bytes_in placed)
first_each zero m placed = refl
first_each (suc n) m [] = refl
first_each (suc n) m (p ∷ placed) = first_each n (insert m p.0 p.1) placed

-- what stands before a place that was cut off
front_held : (old between : Stored) (c : Command (List ℕ)) (contents : List (List ℕ)) (placed : List (List ℕ × List ℕ)) (n : ℕ) → placed_names c ≡ names_in placed → AreHeld (Some old) c contents → IsPlaced c contents (bytes_in placed)
    → between ≡ insert_each old (names_in (take n placed)) (bytes_in (take n placed)) → HoldsFront old between c (take n (placed_names c))
front_held old between c contents placed n names held is e =
    by (take n (placed_names c)) (e ∙ first_each n old placed ∙ ap (λ (all : List (List ℕ)). insert_each old (take n all) (bytes_in placed)) (sym names))
  where
    by : (front : List (List ℕ)) → between ≡ insert_each old front (bytes_in placed) → HoldsFront old between c front
    by [] same = same
    by (name ∷ front) same = record { contents = contents; are_held = held; bytes = bytes_in placed; placed = is; new_is = same }

-- .. and then only what it has under one name may have changed
cut_off : (old between new : Stored) (c : Command (List ℕ)) (contents : List (List ℕ)) (s : Status) (placed : List (List ℕ × List ℕ)) (n : ℕ) (one : List ℕ × List ℕ) → AreHeld (Some old) c contents → Places c contents s placed → slice_get placed n ≡ Some one
    → PlacesIn (Some old) (Some between) (take n placed) → ChangesAt (Some between) (Some new) one.0 → IsCutOff old new c
cut_off old between new c contents s [] n one held places next front changes = absurd (cc next)
cut_off old between new c contents s (p ∷ placed) n one held places next front changes = record {
  n = n;
  name = one.0;
  next = ap (λ (all : List (List ℕ)). slice_get all n) places.0 ∙ slice_get-map (λ (q : List ℕ × List ℕ). q.0) (p ∷ placed) n ∙ ap (option_map (λ (q : List ℕ × List ℕ). q.0)) next;
  between = between;
  front = front_held old between c contents (p ∷ placed) n places.0 held places.1 front;
  changes = changes;
}

none_placed : (held now : Option Stored) → PlacesIn held now [] → now ≡ held
none_placed None None is = refl
none_placed (Some m) (Some n) is = ap Some is
none_placed None (Some n) is = absurd is
none_placed (Some m) None is = absurd is

-- what a reply leaves
pub reply_left : (held now : Option Stored) (asked later : Option (List Asked)) (c : Command (List ℕ)) (fetched : List Fetched) (placed : List (List ℕ × List ℕ)) (text : List ℕ) (meant result : Status) (sent_old sent_new : Option (List ℕ)) (files_rose write_rose : Type 0)
    → IsReply held c fetched placed text meant → Gives held now asked later placed sent_old sent_new text meant result files_rose write_rose → Leaves (Some c) held now files_rose write_rose result
reply_left held now asked later c fetched [] text meant result sent_old sent_new files_rose write_rose r (inl done) =
    subst (λ (h : Option Stored). Leaves (Some c) held h files_rose write_rose result) (sym (none_placed held now done.0.holds))
    (elim (bare_result held c fetched text meant result sent_old sent_new files_rose write_rose r done.1) [
      | inl none ↦ left_named c files_rose write_rose [] held held result none refl
      | inr bad ↦ unchanged_bad c files_rose write_rose held result bad.0 bad.1
    ])
reply_left held now asked later c fetched (p ∷ placed) text meant result sent_old sent_new files_rose write_rose r (inl done) =
    let g = fetched_bytes held (fetches c) fetched r.holds in
    let names = (r.places g.contents g.are_fetched).0 in
    left_named c files_rose write_rose (names_in (p ∷ placed)) held now result names (by held now r.holds done.0.holds)
  where
    by : (h k : Option Stored) → HoldAll h (fetches c) fetched → PlacesIn h k (p ∷ placed) → LeavesKnown c h k files_rose write_rose result
    by None None all is = tt
    by (Some m) (Some n) all is =
        let g = fetched_bytes (Some m) (fetches c) fetched all in
        let places = r.places g.contents g.are_fetched in
        placed_at c files_rose write_rose m n result (whole_result held c fetched text meant result sent_old sent_new files_rose write_rose p placed r done.1)
        (record { contents = g.contents; are_held = g.are_held; bytes = bytes_in (p ∷ placed); placed = places.1; new_is = is ∙ ap (λ (all : List (List ℕ)). insert_each m all (bytes_in (p ∷ placed))) (sym places.0) })
    by None (Some n) all is = absurd is
    by (Some m) None all is = absurd is
reply_left held now asked later c fetched placed text meant result sent_old sent_new files_rose write_rose r (inr cut) =
    let g = fetched_bytes held (fetches c) fetched r.holds in
    let names = names_are c g.contents meant placed cut.0.n cut.0.one cut.0.next (r.places g.contents g.are_fetched) in
    left_named c files_rose write_rose (names_in placed) held now result names (by (names_in placed) (some_names placed cut.0.n cut.0.one cut.0.next) held cut.0.between now r.holds cut.0.front cut.0.changes)
  where
    known : (h b k : Option Stored) → HoldAll h (fetches c) fetched → PlacesIn h b (take cut.0.n placed) → ChangesAt b k cut.0.one.0 → LeavesKnown c h k files_rose write_rose result
    known None None None all front changes = tt
    known (Some m) (Some b) (Some n) all front changes =
        let g = fetched_bytes (Some m) (fetches c) fetched all in
        cut_at c files_rose write_rose m n result cut.0.failed (cut_off m b n c g.contents meant placed cut.0.n cut.0.one g.are_held (r.places g.contents g.are_fetched) cut.0.next front changes)
    known None None (Some k) all front changes = absurd changes
    known None (Some b) k all front changes = absurd front
    known (Some m) None k all front changes = absurd front
    known (Some m) (Some b) None all front changes = absurd changes

    by : (names : List (List ℕ)) → names ≢ [] → (h b k : Option Stored) → HoldAll h (fetches c) fetched → PlacesIn h b (take cut.0.n placed) → ChangesAt b k cut.0.one.0 → LeavesBy names c h k files_rose write_rose result
    by [] some h b k all front changes = absurd (some refl)
    by (name ∷ names) some h b k all front changes = known h b k all front changes

-- ---- memory ran out before anything was done

pub nothing_asked : (held : Option Stored) (c : Option (Command (List ℕ))) (asked : Option (List Asked)) (write_rose : Type 0) → CallsFor held c asked asked write_rose status.Memory
nothing_asked held None asked write_rose = refl
nothing_asked held (Some c) asked write_rose = (0, more_nothing asked)

pub nothing_left : (c : Option (Command (List ℕ))) (held : Option Stored) (files_rose write_rose : Type 0) → Leaves c held held files_rose write_rose status.Memory
nothing_left None held files_rose write_rose = refl
nothing_left (Some c) held files_rose write_rose = unchanged c files_rose write_rose held status.Memory refl (λ fault. absurd (cc fault))

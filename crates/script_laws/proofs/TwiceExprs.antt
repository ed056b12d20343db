-- Expressions in two worlds that differ in the steps that are left.
use Rattle.std.proofs.Common.{ℕ, List, [], ◌∷◌, map, Ok, Err, Option, Some, None, true, false, Bool}
use Rattle.std.specs.Prelude.{codes, encode_utf8_all}
use Rattle.gd_syntax.specs.declared.fault.Place.{Place}
use Rattle.gd_syntax.specs.declared.tree.expr.TreeOp.{TreeOp}
use Rattle.gd_syntax.specs.declared.tree.expr.TreeOp.TheVariants as op
use Rattle.gd_syntax.specs.declared.tree.expr.TreePrefix.{TreePrefix}
use Rattle.gd_syntax.specs.declared.tree.type_name.Identifier.{Identifier}
use Rattle.gd_syntax.specs.declared.tree.type_name.TypeName.{TypeName}
use Rattle.native_calls.specs.Globals.{Span, span_in}
use Rattle.variant_values.specs.declared.classes.ElementTag.{ElementTag}
use Rattle.variant_values.specs.declared.faults.RunFault.TheVariants.{NoMember, BadArgs, BadOperands, ElementType}
use Rattle.variant_values.specs.declared.values.Value.{Value}
use Rattle.variant_values.specs.declared.values.Value.TheVariants.{Int, Str, Array, Dict}
use Rattle.variant_values.specs.Changes.{Given, new_array}
use Rattle.variant_values.specs.ElementTypes.{all_taken}
use Rattle.script_meaning.specs.Projects.{Project, values_of}
use Rattle.script_meaning.specs.Meanings.{site_of, heap_at, Given-to, Means}
use Rattle.script_meaning.specs.Methods.{invoked}
use Rattle.script_meaning.specs.Exprs
use Rattle.script_laws.proofs.TwiceForm.{bind, gave, failed, choice, Each}
use Rattle.script_laws.proofs.TwiceMembers.{Twice, TwiceAt, twice_by, twice_then, twice_holder, twice_callee, twice_name, twice_name_holder, twice_name_callee, twice_member_holder, twice_member_value, twice_member_callee, twice_member_target}
use Rattle.script_laws.proofs.TwiceMethods.{twice_invoked, twice_super, twice_native}

-- an expression all of whose readings are the same with k steps more
pub record AllTwice (k : ℕ) (e : Means) : Type 0 where
  pub value : Twice k e.value
  pub holder : Twice k e.holder
  pub callee : Twice k e.callee
  pub target : Twice k e.target
  pub walk : Twice k e.walk

module _ (k : ℕ) where
  -- ---- what is walked

  twice_keys : (of : Value) (o : Given) → TwiceAt k (Exprs.keys_walked of o)
  twice_keys of (Ok (Array a, heap)) = record { at = λ s c m. gave _ }
  twice_keys of (Ok (v, heap)) = record { at = λ s c m. failed BadOperands s.spot m.world }
  twice_keys of (Err kind) = record { at = λ s c m. failed kind s.spot m.world }

  twice_walk_over : (v : Value) → TwiceAt k (Exprs.walk_over v)
  twice_walk_over (Int n) = record { at = λ s c m. gave _ }
  twice_walk_over (Array a) = record { at = λ s c m. gave _ }
  twice_walk_over (Str text) = record { at = λ s c m. gave _ }
  twice_walk_over (Dict d) = record { at = λ s c m. (twice_keys (Dict d) _).at s c m }
  twice_walk_over v = record { at = λ s c m. failed BadOperands s.spot m.world }

  twice_span : (o : Option Span) → TwiceAt k (Exprs.span_walked o)
  twice_span (Some span) = record { at = λ s c m. gave _ }
  twice_span None = record { at = λ s c m. failed BadArgs s.spot m.world }

  -- ---- forms

  twice_no_target : Twice k Exprs.no_target
  twice_no_target = record { at = λ h c m. failed BadOperands h.spot m.world }

  twice_walked_plain : (f : Given-to Value) → Twice k f → Twice k (Exprs.walked_plain f)
  twice_walked_plain f u = record { at = λ h c m. bind (u.at h c m) (λ x. (twice_walk_over x.0).at (site_of h) c x.1) }

  pub twice_valued : (place : Place) (f : Given-to Value) → Twice k f → AllTwice k (Exprs.valued place f)
  twice_valued place f u = record {
    value = u;
    holder = record { at = λ h c m. twice_holder k (u.at h c m) };
    callee = record { at = λ h c m. twice_callee k (u.at h c m) };
    target = twice_no_target;
    walk = twice_walked_plain f u;
  }

  pub twice_fixed : (place : Place) (v : Value) → AllTwice k (Exprs.fixed place v)
  twice_fixed place v = twice_valued place _ (record { at = λ h c m. gave _ })

  twice_values : (es : List Means) → Each (AllTwice k) es → Twice k (Exprs.values es)
  twice_values [] us = record { at = λ h c m. gave _ }
  twice_values (e ∷ es) us = record { at = λ h c m. bind (us.0.value.at h c m) (λ x. bind ((twice_values es us.1).at h c x.1) (λ y. gave _)) }

  pub twice_pairs : (es : List (Means × Means)) → Each {A = Means × Means} (λ e. AllTwice k e.0 × AllTwice k e.1) es → Twice k (Exprs.pairs es)
  twice_pairs [] us = record { at = λ h c m. gave _ }
  twice_pairs (e ∷ es) us = record { at = λ h c m. bind (us.0.0.value.at h c m) (λ x. bind (us.0.1.value.at h c x.1) (λ y. bind ((twice_pairs es us.1).at h c y.1) (λ z. gave _))) }

  twice_chosen : {A : Type 0} (b : Bool) (f g : Given-to A) → Twice k f → Twice k g → Twice k (Exprs.chosen b f g)
  twice_chosen true f g u v = record { at = λ h c m. u.at h c m }
  twice_chosen false f g u v = record { at = λ h c m. v.at h c m }

  twice_as_truth : (f : Given-to Value) → Twice k f → Twice k (Exprs.as_truth f)
  twice_as_truth f u = record { at = λ h c m. bind (u.at h c m) (λ x. gave _) }

  twice_truth : (b : Bool) → Twice k (Exprs.gives_truth b)
  twice_truth b = record { at = λ h c m. gave _ }

  -- ---- containers

  twice_array_of : (of : Option ElementTag) (vs : List Value) → TwiceAt k (Exprs.array_of of vs)
  twice_array_of of vs = record { at = λ s c m. choice (all_taken m.world.cells of vs) ((twice_then k (new_array (heap_at s m) vs of)).at s c m) (failed ElementType s.spot m.world) }

  pub twice_dict : (parts : Given-to (List (Value × Value))) → Twice k parts → Twice k (Exprs.dict_value parts)
  twice_dict parts u = record { at = λ h c m. bind (u.at h c m) (λ x. (twice_then k _).at (site_of h) c x.1) }

  pub twice_keyed : (all : List (Identifier × Means)) → Each {A = Identifier × Means} (λ e. AllTwice k e.1) all → Each {A = Means × Means} (λ e. AllTwice k e.0 × AllTwice k e.1) (map (λ e. Exprs.keyed e.0.name e.1) all)
  twice_keyed [] us = tt
  twice_keyed (e ∷ es) us = ((twice_fixed _ _, us.0), twice_keyed es us.1)

  twice_index_value : (a i : Means) → AllTwice k a → AllTwice k i → Twice k (Exprs.index_value a i)
  twice_index_value a i u v = record { at = λ h c m. bind (u.value.at h c m) (λ x. bind (v.value.at h c x.1) (λ y. (twice_by k _).at (site_of h) c y.1)) }

  twice_index_target : (a i : Means) → AllTwice k a → AllTwice k i → Twice k (Exprs.index_target a i)
  twice_index_target a i u v = record { at = λ h c m. bind (u.value.at h c m) (λ x. bind (v.value.at h c x.1) (λ y. gave _)) }

  pub twice_index : (place : Place) (a i : Means) → AllTwice k a → AllTwice k i → AllTwice k (Exprs.index_means place a i)
  twice_index place a i u v =
      let all = twice_valued place _ (twice_index_value a i u v) in
      record { value = all.value; holder = all.holder; callee = all.callee; target = twice_index_target a i u v; walk = all.walk }

  -- ---- operators on one operand, and choices

  pub twice_ternary : (a b d : Means) → AllTwice k a → AllTwice k b → AllTwice k d → Twice k (Exprs.ternary_value a b d)
  twice_ternary a b d u v w = record { at = λ h c m. bind (v.value.at h c m) (λ x. (twice_chosen _ _ _ u.value w.value).at h c x.1) }

  pub twice_prefix : (op : TreePrefix) (a : Means) → AllTwice k a → Twice k (Exprs.prefix_value op a)
  twice_prefix op a u = record { at = λ h c m. bind (u.value.at h c m) (λ x. (twice_by k _).at (site_of h) c x.1) }

  pub twice_not : (a : Means) → AllTwice k a → Twice k (Exprs.not_value a)
  twice_not a u = record { at = λ h c m. bind (u.value.at h c m) (λ x. gave _) }

  pub twice_paren : (place : Place) (a : Means) → AllTwice k a → AllTwice k (Exprs.paren_means place a)
  twice_paren place a u = record { value = u.value; holder = u.holder; callee = u.callee; target = twice_no_target; walk = twice_walked_plain _ u.value }

  module _ (P : Project) where
    pub twice_applied : (op : TreeOp) (v w : Value) → TwiceAt k (Exprs.applied P op v w)
    twice_applied op v w = record { at = λ s c m. (twice_then k _).at s c m }

    pub twice_binary : (op : TreeOp) (a b : Means) → AllTwice k a → AllTwice k b → Twice k (Exprs.binary_value P op a b)
    twice_binary op.And a b u v = record { at = λ h c m. bind (u.value.at h c m) (λ x. (twice_chosen _ (Exprs.as_truth b.value) (Exprs.gives_truth false) (twice_as_truth b.value v.value) (twice_truth false)).at h c x.1) }
    twice_binary op.Or a b u v = record { at = λ h c m. bind (u.value.at h c m) (λ x. (twice_chosen _ (Exprs.gives_truth true) (Exprs.as_truth b.value) (twice_truth true) (twice_as_truth b.value v.value)).at h c x.1) }
    twice_binary op a b u v = record { at = λ h c m. bind (u.value.at h c m) (λ x. bind (v.value.at h c x.1) (λ y. (twice_applied op x.0 y.0).at (site_of h) c y.1)) }

    -- ---- names and members

    pub twice_name_means : (place : Place) (name : List ℕ) → AllTwice k (Exprs.name_means P place name)
    twice_name_means place name = record {
      value = twice_name k P name;
      holder = twice_name_holder k P name;
      callee = twice_name_callee k P name;
      target = record { at = λ h c m. gave _ };
      walk = twice_walked_plain _ (twice_name k P name);
    }

    pub twice_member : (place : Place) (a : Means) (name : List ℕ) → AllTwice k a → AllTwice k (Exprs.member_means P place a name)
    twice_member place a name u = record {
      value = twice_member_value k P a.holder name u.holder;
      holder = twice_member_holder k P place a.holder name u.holder;
      callee = twice_member_callee k P a.holder name u.holder;
      target = twice_member_target k P a.value name u.value;
      walk = twice_walked_plain _ (twice_member_value k P a.holder name u.holder);
    }

    -- ---- calls

    twice_arguments : (es : List Means) → Each (AllTwice k) es → Twice k (Exprs.arguments P es)
    twice_arguments [] us = record { at = λ h c m. gave _ }
    twice_arguments (e ∷ es) us = record { at = λ h c m. bind (us.0.value.at h c m) (λ x. bind ((twice_arguments es us.1).at h c x.1) (λ y. gave _)) }

    twice_call_value : (f : Means) (args : List Means) → AllTwice k f → Each (AllTwice k) args → Twice k (Exprs.call_value P f args)
    twice_call_value f args u us = record { at = λ h c m. bind (u.callee.at h c m) (λ x. bind ((twice_arguments args us).at h c x.1) (λ y. (twice_invoked k P x.0 y.0).at (site_of h) c y.1)) }

    twice_call_walk : (f : Means) (args : List Means) → AllTwice k f → Each (AllTwice k) args → Twice k (Exprs.call_walk P f args)
    twice_call_walk f args u us = record {
      at = λ h c m. bind (u.callee.at h c m) (λ x. bind ((twice_arguments args us).at h c x.1) (λ y.
          (twice_chosen _ (λ at now. Exprs.span_walked (span_in (values_of y.0)) (site_of at) now) (Exprs.walked_plain (λ at now. invoked P x.0 y.0 (site_of at) now))
          (record { at = λ at d now. (twice_span _).at (site_of at) d now }) (twice_walked_plain _ (record { at = λ at d now. (twice_invoked k P x.0 y.0).at (site_of at) d now }))).at h c y.1));
    }

    pub twice_call : (place : Place) (f : Means) (args : List Means) → AllTwice k f → Each (AllTwice k) args → AllTwice k (Exprs.call_means P place f args)
    twice_call place f args u us =
        let all = twice_valued place _ (twice_call_value f args u us) in
        record { value = all.value; holder = all.holder; callee = all.callee; target = all.target; walk = twice_call_walk f args u us }

    pub twice_super_value : (name : List ℕ) (args : List Means) → Each (AllTwice k) args → Twice k (Exprs.super_value P name args)
    twice_super_value name args us = record { at = λ h c m. bind ((twice_arguments args us).at h c m) (λ x. (twice_super k P name x.0).at (site_of h) c x.1) }

    pub twice_super_same : (args : List Means) → Each (AllTwice k) args → Twice k (Exprs.super_of_same P args)
    twice_super_same args us = record { at = λ h c m. (twice_super_value _ args us).at h c m }

    -- ---- containers, types, files and nodes

    pub twice_array : (place : Place) (all : List Means) → Each (AllTwice k) all → Twice k (Exprs.array_value P place all)
    twice_array place all us = record { at = λ h c m. bind ((twice_values all us).at h c m) (λ x. (twice_array_of _ x.0).at (site_of h) c x.1) }

    twice_is_value : (a : Means) (type : TypeName) → AllTwice k a → Twice k (Exprs.is_value P a type)
    twice_is_value a type u = record { at = λ h c m. bind (u.value.at h c m) (λ x. gave _) }

    pub twice_type_test : (answer : Bool → Bool) (a : Means) (type : TypeName) → AllTwice k a → Twice k (Exprs.type_test P answer a type)
    twice_type_test answer a type u = record { at = λ h c m. bind ((twice_is_value a type u).at h c m) (λ x. gave _) }

    pub twice_as_value : (a : Means) (type : TypeName) → AllTwice k a → Twice k (Exprs.as_value P a type)
    twice_as_value a type u = record { at = λ h c m. bind (u.value.at h c m) (λ x. (twice_by k _).at (site_of h) c x.1) }

    twice_file_by : (o : Option Value) → TwiceAt k (Exprs.file_by P o)
    twice_file_by (Some v) = record { at = λ s c m. gave _ }
    twice_file_by None = record { at = λ s c m. failed NoMember s.spot m.world }

    pub twice_file : (path : List ℕ) → Twice k (Exprs.file_value P path)
    twice_file path = record { at = λ h c m. (twice_file_by _).at (site_of h) c m }

    pub twice_node : (path : List ℕ) → Twice k (Exprs.node_value P path)
    twice_node path = record { at = λ h c m. (twice_native k P h.around.self (codes "get_node") (record { value = Str (encode_utf8_all path); fits = true } ∷ [])).at (site_of h) c m }

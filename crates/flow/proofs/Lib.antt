pub mod FlowLaws

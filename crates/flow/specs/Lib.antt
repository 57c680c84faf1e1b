pub mod FlowSteps
